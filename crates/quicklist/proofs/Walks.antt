-- A walk along the nodes of a list, to the value at an index.
use Rattle.std.proofs.Common.{◌≡◌, ℕ, ◌+◌, ◌-◌, ◌<◌, ◌≤◌, List, [], ◌∷◌, ◌++◌, map, length, get_or, take, drop, sym, refl, ap, ◌∙◌, subst, ⊎_elim, add-one, arith, length-append}
use Rattle.std.proofs.lemmas.List.{drop_more, take_more, drop_all, map-append, take-append-drop}
use Rattle.std.proofs.lemmas.Bool.{cases_lt}
use Rattle.store.specs.Lists.{Value}
use Rattle.nodes.specs.Nodes.{flat}
use Rattle.nodes.proofs.NodeLaws.{flat_append}
use Rattle.links.specs.Links.{from, tally, head_or, Sound}
use Rattle.links.proofs.Paths.{goes_nth, tally_nth}
use Rattle.links.proofs.Sums.{sum_part}
use Rattle.links.proofs.Tables.{within, first_is, from_some}
use Rattle.quicklist.specs.declared.table.Tables.{Tables}
use Rattle.quicklist.specs.Tables.{values_at, next_in, room, links_of, numbers, nodes_of, Located}

-- after k nodes, at the next of them: the value sought is so many values on
pub record Walk (T : Tables) (e index k node place : ℕ) : Type 0 where
  pub stands : node ≡ get_or (numbers T e) k 0
  pub passed : length (flat (map (values_at T.nodes.now) (take k (numbers T e)))) + place ≡ index
  pub ahead : place < length (flat (map (values_at T.nodes.now) (drop k (numbers T e))))

head_of : (ns : List ℕ) (n : ℕ) → head_or ns 0 ≡ n → get_or ns 0 0 ≡ n
head_of [] n e = e
head_of (x ∷ ns) n e = e

module _ (T : Tables) (e index : ℕ) (sound : Sound (room T) (links_of T)) (l : e < room T) where
  abbrev ns : List ℕ
  ns = numbers T e

  abbrev at : ℕ → List Value
  at = values_at T.nodes.now

  pub walk_none : (first : ℕ) → first ≡ (links_of T).first e → index < length (flat (nodes_of T e)) → Walk T e index 0 first index
  walk_none first f h = record { stands = f ∙ first_is (room T) (links_of T) sound e l ∙ sym (head_of ns _ refl); passed = omega arith; ahead = h }

  module _ (k node place : ℕ) (w : Walk T e index k node place) where
    pub walk_more : k < length ns
    walk_more = ⊎_elim (λ h. h) (λ h. absurd (omega (arith, w.ahead, ap (λ ms. length (flat (map at ms))) (drop_all k ns h)))) (cases_lt k (length ns))

    walk_in : 0 < tally node ns
    walk_in = subst (λ m. 0 < tally m ns) (sym w.stands) (tally_nth ns k walk_more)

    pub walk_within : (0 < node) × (node ≤ room T)
    walk_within = within (room T) (links_of T) sound e node l (omega (arith, walk_in))

    here_is : drop k ns ≡ node ∷ drop (k + 1) ns
    here_is = drop_more ns k 0 walk_more ∙ ap (λ m. m ∷ drop (k + 1) ns) (sym w.stands)

    pub walk_found : place < length (at node) → Located T e index node place
    walk_found h = record {
      before = take k ns;
      behind = drop (k + 1) ns;
      is = sym (take-append-drop k ns) ∙ ap (λ ms. take k ns ++ ms) here_is;
      counted = w.passed;
      inside = h;
    }

    pub walk_next : (here next : ℕ) → here ≡ length (at node) → here ≤ place → next ≡ next_in T.nodes.now node → Walk T e index (k + 1) next (place - here)
    walk_next here next q h n =
        let a : length (flat (map at (drop k ns))) ≡ length (at node) + length (flat (map at (drop (k + 1) ns))) =
        ap (λ ms. length (flat (map at ms))) here_is ∙ length-append (at node) (flat (map at (drop (k + 1) ns))) in
        let b : flat (map at (take (k + 1) ns)) ≡ flat (map at (take k ns)) ++ (at node ++ []) =
        ap (λ ms. flat (map at ms)) (take_more ns k 0 walk_more ∙ ap (λ m. take k ns ++ m ∷ []) (sym w.stands)) ∙ ap flat (map-append at (take k ns) (node ∷ [])) ∙ flat_append (map at (take k ns)) (at node ∷ []) in
        let c : length (flat (map at (take (k + 1) ns))) ≡ length (flat (map at (take k ns))) + length (at node) =
        ap length b ∙ length-append (flat (map at (take k ns))) (at node ++ []) ∙ omega (arith, length-append (at node) []) in
        record {
          stands = n ∙ sym (from_some ((links_of T).first e) (links_of T).next node walk_within.0) ∙ ap (from ((links_of T).first e) (links_of T).next) w.stands
              ∙ goes_nth (from ((links_of T).first e) (links_of T).next) 0 ns k (sound.ahead e l) walk_more ∙ ap (λ m. get_or ns m 0) (sym (add-one k));
          passed = omega (arith, w.passed, c);
          ahead = omega (arith, w.ahead, a);
        }

    pub walk_ends : room T ≤ k → ⊥
    walk_ends h = omega (arith, walk_more, sound.full, sum_part (λ i. length (numbers T i)) e (room T) l)
