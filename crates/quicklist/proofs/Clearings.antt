-- Tables where all is free.
use Rattle.std.proofs.Common.{◌≡◌, ℕ, zero, suc, ◌+◌, ◌-◌, ◌<◌, ◌≤◌, List, [], map, length, get_or, set, sym, refl, ap, ◌∙◌, subst, ⊎_elim, arith}
use Rattle.std.proofs.Math.ListN.{length-map}
use Rattle.std.proofs.lemmas.List.{get_or_past}
use Rattle.std.proofs.lemmas.Bool.{cases_eq, cases_lt}
use Rattle.store.specs.Limits.{largest_store}
use Rattle.nodes.specs.Nodes.{flat}
use Rattle.links.specs.Links.{Pool, Sound}
use Rattle.links.proofs.Cleared.{cleared, cleared_pool, chain_none, sum_zero}
use Rattle.records.specs.declared.record.ListRecord.{ListRecord}
use Rattle.records.specs.Records.{first_at}
use Rattle.quicklist.specs.declared.table.Node.{Node}
use Rattle.quicklist.specs.declared.table.Tables.{Tables}
use Rattle.quicklist.specs.Tables.{next_in, prev_in, values_at, last_at, next_list, used, links, room, nodes_of, Downward, Threaded, Whole}
use Rattle.quicklist.proofs.Writes.{wrote_here, wrote_else}
use Rattle.quicklist.proofs.Records.{field_here, field_else}
use Rattle.quicklist.proofs.Wholes.{used_is_none}

pub downward_more : (xs : List Node) (i : ℕ) (y : Node) → ((k : ℕ) → k < i → Downward xs k) → i < length xs → y.next ≡ i → (k : ℕ) → k < i + 1 → Downward (set xs i y) k
downward_more xs i y h l e k o = ⊎_elim
    (λ q. ap (λ m. get_or (map (λ (x : Node). x.next) (set xs i y)) m 0) q ∙ wrote_here (λ x. x.next) xs i y 0 l ∙ e ∙ sym q)
    (λ ne. wrote_else (λ x. x.next) xs i y 0 k ne ∙ h k (omega (arith, ne)))
    (cases_eq k i)

pub threaded_more : (hs : List ListRecord) (i : ℕ) (r : ListRecord) → ((k : ℕ) → k < i → Threaded hs k) → i < length hs → r.first ≡ 0 → r.last ≡ 0 → r.count ≡ 0 → r.next ≡ i → (k : ℕ) → k < i + 1 → Threaded (set hs i r) k
threaded_more hs i r h l a b c d k o = ⊎_elim
    (λ q. subst (Threaded (set hs i r)) (sym q) (record {
      first = field_here (λ (y : ListRecord). y.first) hs i 0 r l ∙ a;
      last = field_here (λ (y : ListRecord). y.last) hs i 0 r l ∙ b;
      count = field_here (λ (y : ListRecord). y.count) hs i 0 r l ∙ c;
      next = field_here (λ (y : ListRecord). y.next) hs i 0 r l ∙ d;
    }))
    (λ ne. let t = h k (omega (arith, ne)) in record {
      first = field_else (λ (y : ListRecord). y.first) hs i 0 r k ne ∙ t.first;
      last = field_else (λ (y : ListRecord). y.last) hs i 0 r k ne ∙ t.last;
      count = field_else (λ (y : ListRecord). y.count) hs i 0 r k ne ∙ t.count;
      next = field_else (λ (y : ListRecord). y.next) hs i 0 r k ne ∙ t.next;
    })
    (cases_eq k i)

module _ (xs : List Node) (hs : List ListRecord) (down : (k : ℕ) → k < length xs → Downward xs k) (free : (k : ℕ) → k < length hs → Threaded hs k) (same : length hs ≡ length xs) where
  -- a number read at any place, past the end too
  zero_at : (f : ListRecord → ℕ) → ((k : ℕ) → k < length hs → get_or (map f hs) k 0 ≡ 0) → (k : ℕ) → get_or (map f hs) k 0 ≡ 0
  zero_at f h k = ⊎_elim (h k) (λ l. get_or_past (map f hs) k 0 (omega (arith, l, length-map hs f))) (cases_lt k (length hs))

  first_zero : (e : ℕ) → first_at hs e ≡ 0
  first_zero = zero_at (λ r. r.first) (λ k l. (free k l).first)

  last_zero : (e : ℕ) → last_at hs e ≡ 0
  last_zero = zero_at (λ r. r.last) (λ k l. (free k l).last)

  leads : (k : ℕ) → k < length xs → next_in xs (suc k) ≡ k
  leads k l = let q : suc k - 1 ≡ k = omega arith in ap (λ i. get_or (map (λ (x : Node). x.next) xs) i 0) q ∙ down k l

  pub cleared_linked : Sound (length xs) (links xs hs (length xs))
  cleared_linked = cleared (length xs) (next_in xs) leads (prev_in xs) (first_at hs) (last_at hs) first_zero last_zero

module _ (T : Tables) (down : (k : ℕ) → k < room T → Downward T.nodes.now k) (free : (k : ℕ) → k < length T.lists.now → Threaded T.lists.now k)
    (some : 1 ≤ room T) (few : room T ≤ largest_store) (list : T.free_list ≡ room T) (none : T.held ≡ 0) where
  firsts : (e : ℕ) → first_at T.lists.now e ≡ 0
  firsts = first_zero T.nodes.now T.lists.now down free T.same

  nodes_none : (e : ℕ) → nodes_of T e ≡ []
  nodes_none e = ap (map (values_at T.nodes.now)) (chain_none (next_in T.nodes.now) (room T) (first_at T.lists.now e) (firsts e))

  used_zero : (n : ℕ) → used T.lists.now n ≡ 0
  used_zero zero = refl
  used_zero (suc e) = used_is_none (first_at T.lists.now e) (firsts e)

  leads_list : (k : ℕ) → k < room T → next_list T.lists.now (suc k) ≡ k
  leads_list k l =
      let same = T.same in
      let q : suc k - 1 ≡ k = omega arith in
      ap (λ i. get_or (map (λ (r : ListRecord). r.next) T.lists.now) i 0) q ∙ (free k (omega arith)).next

  pub cleared_whole : Whole T
  cleared_whole = record {
    sized = (T.same, some, few);
    within = omega arith;
    linked = T.linked;
    pooled = subst (Pool (room T) (next_list T.lists.now) (used T.lists.now)) (sym list) (cleared_pool (room T) (next_list T.lists.now) leads_list (used T.lists.now) used_zero);
    loaded = λ e i l h. absurd (omega (arith, h, ap length (nodes_none e)));
    counted = λ e l. let same = T.same in (free e (omega arith)).count ∙ sym (ap (λ ns. length (flat ns)) (nodes_none e));
    totalled = none ∙ sym (sum_zero (λ e. length (flat (nodes_of T e))) (room T) (λ e. ap (λ ns. length (flat ns)) (nodes_none e)));
    named = λ e i h. omega (arith, h.3, ap length (nodes_none e));
  }
