-- A value more at a side of a list.
use Rattle.std.proofs.Common.{◌≡◌, ℕ, ◌<◌, ◌≤◌, true, false, cond, List, [], ◌∷◌, ◌++◌, map, length, sym, refl, ap, ◌∙◌, ⊎_elim, append_assoc, append-nil, arith}
use Rattle.std.specs.List.{insert}
use Rattle.std.proofs.lemmas.List.{map-append}
use Rattle.std.proofs.lemmas.Bool.{cases_eq}
use Rattle.store.specs.declared.Side.{Side}
use Rattle.store.specs.declared.Side.TheVariants.{Left, Right}
use Rattle.store.specs.Lists.{Value}
use Rattle.listpack.specs.Packs.{takes}
use Rattle.nodes.specs.Nodes.{pushed}
use Rattle.nodes.proofs.NodeLaws.{pushed_none, pushed_left_at, pushed_right_at}
use Rattle.links.specs.Links.{tally, last_or, Sound}
use Rattle.links.proofs.Paths.{one_same, tally_append, last_push, map_frame}
use Rattle.links.proofs.Tables.{within, first_none, first_split, last_none, last_split}
use Rattle.quicklist.specs.declared.table.Node.{Node}
use Rattle.quicklist.specs.declared.table.Tables.{Tables}
use Rattle.quicklist.specs.Tables.{values_at, room, links_of, numbers, nodes_of, end_node, end_place, node_before, Refilled}
use Rattle.quicklist.proofs.Refills.{inserted_end}

module _ (T : Tables) (e : ℕ) (sound : Sound (room T) (links_of T)) (l : e < room T) where
  abbrev at : ℕ → List Value
  at = values_at T.nodes.now

  -- ---- a list without nodes

  pub end_none : (s : Side) → end_node s T e ≡ 0 → numbers T e ≡ []
  end_none Left z = first_none (room T) (links_of T) sound e l z
  end_none Right z = last_none (room T) (links_of T) sound e l z

  pub push_none : (s : Side) (v : Value) → numbers T e ≡ [] → (v ∷ []) ∷ [] ≡ pushed takes s (nodes_of T e) v
  push_none s v z = sym (pushed_none takes s v) ∙ ap (λ ns. pushed takes s (map at ns) v) (sym z)

  -- ---- a list with an end node: where it stands, and what is made of the list

  pub record Ended (s : Side) (n : ℕ) (v : Value) : Type 0 where
    pub before : List ℕ
    pub behind : List ℕ
    pub is : numbers T e ≡ before ++ n ∷ behind
    pub taken : true ≡ takes (at n) v → map at before ++ insert (at n) (end_place s (at n)) v ∷ map at behind ≡ pushed takes s (nodes_of T e) v
    pub left : List ℕ
    pub right : List ℕ
    pub cut : numbers T e ≡ left ++ right
    pub past : node_before s n ≡ last_or 0 left
    pub opened : false ≡ takes (at n) v → map at left ++ (v ∷ []) ∷ map at right ≡ pushed takes s (nodes_of T e) v

  pub ended : (s : Side) (n : ℕ) (v : Value) → n ≡ end_node s T e → 0 < n → Ended s n v
  ended Left n v q o =
      let a = first_split (room T) (links_of T) sound e l (omega arith) in
      let rs = a.0 in
      let is : numbers T e ≡ n ∷ rs = a.1 ∙ ap (λ m. m ∷ rs) (sym q) in
      let p : cond (takes (at n) v) ((v ∷ at n) ∷ map at rs) ((v ∷ []) ∷ at n ∷ map at rs) ≡ pushed takes Left (nodes_of T e) v =
      sym (pushed_left_at takes (at n) (map at rs) v) ∙ ap (λ ns. pushed takes Left (map at ns) v) (sym is) in
      record {
        before = [];
        behind = rs;
        is = is;
        taken = λ t. (λ k. cond (t k) ((v ∷ at n) ∷ map at rs) ((v ∷ []) ∷ at n ∷ map at rs)) ∙ p;
        left = [];
        right = n ∷ rs;
        cut = is;
        past = refl;
        opened = λ t. (λ k. cond (t k) ((v ∷ at n) ∷ map at rs) ((v ∷ []) ∷ at n ∷ map at rs)) ∙ p;
      }
  ended Right n v q o =
      let a = last_split (room T) (links_of T) sound e l (omega arith) in
      let ls = a.0 in
      let is : numbers T e ≡ ls ++ n ∷ [] = a.1 ∙ ap (λ m. ls ++ m ∷ []) (sym q) in
      let p : map at ls ++ cond (takes (at n) v) ((at n ++ v ∷ []) ∷ []) (at n ∷ (v ∷ []) ∷ []) ≡ pushed takes Right (nodes_of T e) v =
      sym (pushed_right_at takes (map at ls) (at n) v) ∙ ap (λ ns. pushed takes Right ns v) (sym (map-append at ls (n ∷ []))) ∙ ap (λ ns. pushed takes Right (map at ns) v) (sym is) in
      record {
        before = ls;
        behind = [];
        is = is;
        taken = λ t. ap (λ us. map at ls ++ us ∷ []) (inserted_end (at n) v (length (at n)) refl) ∙ (λ k. map at ls ++ cond (t k) ((at n ++ v ∷ []) ∷ []) (at n ∷ (v ∷ []) ∷ [])) ∙ p;
        left = ls ++ n ∷ [];
        right = [];
        cut = is ∙ sym (append-nil (ls ++ n ∷ []));
        past = sym (last_push 0 ls n);
        opened = λ t. ap (λ ms. ms ++ (v ∷ []) ∷ []) (map-append at ls (n ∷ [])) ∙ append_assoc (map at ls) (at n ∷ []) ((v ∷ []) ∷ [])
            ∙ (λ k. map at ls ++ cond (t k) ((at n ++ v ∷ []) ∷ []) (at n ∷ (v ∷ []) ∷ [])) ∙ p;
      }

  pub end_there : (s : Side) (n : ℕ) (v : Value) → Ended s n v → 0 < tally n (numbers T e)
  end_there s n v d = omega (arith, ap (tally n) d.is, tally_append n d.before (n ∷ d.behind), one_same n)

  -- a node that holds what it held
  pub still : (ys : List Node) (n : ℕ) → Refilled T.nodes.now ys n (at n) → (ms : List ℕ) → ((m : ℕ) → tally m ms ≤ tally m (numbers T e)) → map (values_at ys) ms ≡ map at ms
  still ys n r ms h = map_frame at (values_at ys) ms (λ m i. ⊎_elim
      (λ z. ap (values_at ys) z ∙ r.here ∙ ap at (sym z))
      (λ ne. r.else m (within (room T) (links_of T) sound e m l (omega (arith, h m))).0 ne)
      (cases_eq m n))

pub end_inside : (s : Side) (us : List Value) (j : ℕ) → j ≡ end_place s us → j ≤ length us
end_inside Left us j e = omega arith
end_inside Right us j e = omega arith
