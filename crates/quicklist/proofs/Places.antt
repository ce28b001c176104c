-- The rules of nodes at the node where a value lies.
use Rattle.std.proofs.Common.{◌≡◌, ℕ, zero, suc, ◌+◌, ◌-◌, ◌<◌, ◌≤◌, Bool, true, false, cond, List, [], ◌∷◌, ◌++◌, map, length, get_or, set, Some, sym, ap, ◌∙◌, subst, ⊎_elim, append-nil, arith, length-append, get_or-append-add}
use Rattle.std.proofs.Math.ListN.{get_or-append}
use Rattle.std.specs.List.{remove}
use Rattle.std.proofs.lemmas.List.{map-append}
use Rattle.std.proofs.lemmas.Bool.{true≢false, cases_eq}
use Rattle.store.specs.Answers.{Copied, over}
use Rattle.store.specs.Limits.{longest_value}
use Rattle.store.specs.Lists.{Value}
use Rattle.listpack.specs.Packs.{takes, swaps}
use Rattle.listpack.proofs.Sizes.{lone}
use Rattle.nodes.specs.Nodes.{flat, put_in, unless_empty, cut, added, changed}
use Rattle.nodes.proofs.NodeLaws.{flat_append, cut_at, added_at, added_end, changed_at, changed_moves}
use Rattle.links.specs.Links.{tally, Sound}
use Rattle.links.proofs.Paths.{one_same, tally_append}
use Rattle.links.proofs.Tables.{last_split, last_none}
use Rattle.quicklist.specs.declared.table.Tables.{Tables}
use Rattle.quicklist.specs.Tables.{values_at, last_at, room, links_of, numbers, nodes_of, Located, Relisted, Replaced}

two : (us : List Value) (q : ℕ) (u : Value) → length u ≤ longest_value → q < length us → swaps us q u ≡ false → 1 < length us
unfolding swaps takes
two [] q u s l t = absurd (omega arith)
two (x ∷ []) zero u s l t = absurd (true≢false (sym (lone u s) ∙ t))
two (x ∷ []) (suc q) u s l t = absurd (omega arith)
two (x ∷ y ∷ us) q u s l t = omega arith

module _ (T : Tables) (e : ℕ) where
  abbrev at : ℕ → List Value
  at = values_at T.nodes.now

  module _ (i n j : ℕ) (f : Located T e i n j) where
    pub located_in : 0 < tally n (numbers T e)
    located_in = omega (arith, ap (tally n) f.is, tally_append n f.before (n ∷ f.behind), one_same n)

    nodes_split : nodes_of T e ≡ map at f.before ++ at n ∷ map at f.behind
    nodes_split = ap (map at) f.is ∙ map-append at f.before (n ∷ f.behind)

    pub added_there : (v : Value) → map at f.before ++ (put_in takes (at n) j v ++ map at f.behind) ≡ added takes (nodes_of T e) i v
    added_there v = sym (added_at takes (map at f.before) (at n) (map at f.behind) j v f.inside) ∙ (λ k. added takes (sym nodes_split k) (f.counted k) v)

    pub cut_there : map at f.before ++ (unless_empty (remove (at n) j) ++ map at f.behind) ≡ cut (nodes_of T e) i
    cut_there = sym (cut_at (map at f.before) (at n) (map at f.behind) j f.inside) ∙ (λ k. cut (sym nodes_split k) (f.counted k))

    written_there : (v : Value) → swaps (at n) j v ≡ true → map at f.before ++ set (at n) j v ∷ map at f.behind ≡ changed takes swaps (nodes_of T e) i v
    written_there v t = sym (changed_at takes swaps (map at f.before) (at n) (map at f.behind) j v f.inside t) ∙ (λ k. changed takes swaps (sym nodes_split k) (f.counted k) v)

    moved_there : (v : Value) → swaps (at n) j v ≡ false → changed takes swaps (nodes_of T e) i v ≡ added takes (cut (nodes_of T e) i) i v
    moved_there v t = (λ k. changed takes swaps (nodes_split k) (sym f.counted k) v)
        ∙ changed_moves takes swaps (map at f.before) (at n) (map at f.behind) j v f.inside t
        ∙ (λ k. added takes (cut (sym nodes_split k) (f.counted k)) (f.counted k) v)

    -- a value alone in its node can always be written over
    more_than_one : (v : Value) → length v ≤ longest_value → swaps (at n) j v ≡ false → 1 < length (flat (nodes_of T e))
    more_than_one v s t =
        let a : length (flat (nodes_of T e)) ≡ length (flat (map at f.before)) + (length (at n) + length (flat (map at f.behind))) =
        ap (λ ms. length (flat ms)) nodes_split ∙ ap length (flat_append (map at f.before) (at n ∷ map at f.behind))
        ∙ omega (arith, length-append (flat (map at f.before)) (flat (at n ∷ map at f.behind)), length-append (at n) (flat (map at f.behind))) in
        omega (arith, a, two (at n) j v s f.inside t)

    pub replaced_there : (T' : Tables) (b : Bool) (v : Value) → length v ≤ longest_value → b ≡ swaps (at n) j v
        → ((ls rs : List ℕ) → numbers T e ≡ ls ++ n ∷ rs → Relisted T T' e (map at ls ++ cond b (set (at n) j v) (at n) ∷ map at rs)) → Replaced T T' e i v b
    replaced_there T' true v s t r = subst (Relisted T T' e) (written_there v (sym t)) (r f.before f.behind f.is)
    replaced_there T' false v s t r = (subst (Relisted T T' e) (sym nodes_split) (r f.before f.behind f.is), moved_there v (sym t), more_than_one v s (sym t))

    -- the value there is the one at the index
    pub copied_there : (out out' : List ℕ) (size : ℕ) → Copied longest_value (at n) j out out' (Some size) → Copied longest_value (flat (nodes_of T e)) i out out' (Some size)
    copied_there out out' size h =
        let xs = flat (map at f.before) in
        let a : flat (nodes_of T e) ≡ xs ++ (at n ++ flat (map at f.behind)) = ap flat nodes_split ∙ flat_append (map at f.before) (at n ∷ map at f.behind) in
        let b : get_or (flat (nodes_of T e)) i [] ≡ get_or (at n) j [] =
        (λ k. get_or (a k) (sym f.counted k) []) ∙ get_or-append-add xs (at n ++ flat (map at f.behind)) j [] ∙ get_or-append (at n) (flat (map at f.behind)) [] j f.inside in (
          omega (arith, f.counted, f.inside, ap length a, length-append xs (at n ++ flat (map at f.behind)), length-append (at n) (flat (map at f.behind))),
          h.1,
          h.2 ∙ ap length (sym b),
          h.3 ∙ ap (over out) (sym b),
        )

  -- ---- past the last value

  module _ (sound : Sound (room T) (links_of T)) (l : e < room T) (some : 0 < length (nodes_of T e)) where
    last_some : 0 < last_at T.lists.now e
    last_some = ⊎_elim (λ z. absurd (omega (arith, some, ap (λ ns. length (map at ns)) (last_none (room T) (links_of T) sound e l z)))) (λ ne. omega (arith, ne)) (cases_eq (last_at T.lists.now e) 0)

    -- the last node, and a value more at its end
    pub record Last (n : ℕ) : Type 0 where
      pub before : List ℕ
      pub is : numbers T e ≡ before ++ n ∷ []
      pub there : 0 < tally n (numbers T e)
      pub long : length (flat (nodes_of T e)) ≡ length (flat (map at before)) + length (at n)
      pub rule : (i j : ℕ) (v : Value) → i ≡ length (flat (nodes_of T e)) → j ≡ length (at n) → map at before ++ (put_in takes (at n) j v ++ []) ≡ added takes (nodes_of T e) i v

    pub last_node : (n : ℕ) → n ≡ last_at T.lists.now e → Last n
    last_node n q =
        let a = last_split (room T) (links_of T) sound e l last_some in
        let ls = a.0 in
        let is : numbers T e ≡ ls ++ n ∷ [] = a.1 ∙ ap (λ m. ls ++ m ∷ []) (sym q) in
        let s : nodes_of T e ≡ map at ls ++ at n ∷ [] = ap (map at) is ∙ map-append at ls (n ∷ []) in
        record {
          before = ls;
          is = is;
          there = omega (arith, ap (tally n) is, tally_append n ls (n ∷ []), one_same n);
          long = ap (λ ms. length (flat ms)) s ∙ ap length (flat_append (map at ls) (at n ∷ [])) ∙ omega (arith, length-append (flat (map at ls)) (at n ++ []), length-append (at n) []);
          rule = λ i j v p r.
              ap (λ ms. map at ls ++ ms) (append-nil (put_in takes (at n) j v))
              ∙ ap (λ m. map at ls ++ put_in takes (at n) m v) r
              ∙ sym (added_end takes (map at ls) (at n) v)
              ∙ (λ k. added takes (sym s k) (sym (p ∙ ap (λ ms. length (flat ms)) s) k) v);
        }

    pub in_last : (n : ℕ) (d : Last n) (i tail count : ℕ) → tail ≡ length (at n) → count ≡ length (flat (nodes_of T e)) → count - tail ≤ i → i < length (flat (nodes_of T e)) → Located T e i n (i - (count - tail))
    in_last n d i tail count p q h o = record {
      before = d.before;
      behind = [];
      is = d.is;
      counted = omega (arith, d.long);
      inside = omega (arith, d.long);
    }
