-- The lists by their keys: where a key's record is, and what a change of its record makes of the store.
use Rattle.std.proofs.Common.{◌≡◌, ℕ, ◌<◌, [], map, length, Some, None, Option, IsSome, refl, sym, ap, ◌∙◌, subst, arith}
use Rattle.order.specs.Keys.{Key}
use Rattle.store.specs.Lists.{at, keys_of}
use Rattle.nodes.specs.Nodes.{Nodes, flat}
use Rattle.nodes.specs.Books.{Alone, Absent, record_at, book_lists, nodes_at}
use Rattle.nodes.proofs.BookLaws.{shown, missing, missing_alone, found, set_same, set_other, set_lists}
use Rattle.records.specs.Records.{key_at, Found, marked}
use Rattle.records.proofs.Marks.{marked_keys}
use Rattle.nodes.proofs.NodeLaws.{few_nodes}
use Rattle.links.proofs.Tables.{first_none}
use Rattle.quicklist.specs.declared.table.Tables.{Tables}
use Rattle.quicklist.specs.Tables.{values_at, room, links_of, nodes_of, book_of, Whole, Rebooked}
use Rattle.quicklist.specs.Store.{lists_of, nodes_in, Placed, Changed}
use Rattle.quicklist.proofs.Wholes.{book_long, book_at, used_some, used_here, loaded_filled}

pub placed : (T : Tables) (k : Key) → Whole T → (r : Option ℕ) → Found T.lists.now k r → Placed T k r
placed T k w None f = λ i b h q. f i (omega (arith, w.sized.0)) (used_some T w.linked i b h, q)
placed T k w (Some e) f = let b : e < room T = omega (arith, f.0, w.sized.0) in (b, f.1.1, used_here T w.linked e b f.1.0)

module _ (T : Tables) (w : Whole T) where
  long : length (book_of T) ≡ room T
  long = book_long T ∙ w.sized.0

  shows : (i : ℕ) → i < room T → record_at (book_of T) i ≡ (key_at T.lists.now i, nodes_of T i)
  shows i b = book_at T i (omega (arith, w.sized.0))

  -- a change of one record, where no other has its key
  pub changes : (T' : Tables) (e : ℕ) (k : Key) (ns : Nodes) → e < room T → Alone k e (book_of T) → (0 < length (nodes_of T e) → key_at T.lists.now e ≡ k) → Rebooked T T' e k ns → Changed T T' k ns
  changes T' e k ns l alone owned re =
      let b : e < length (book_of T) = omega (arith, long) in
      let own : 0 < length (record_at (book_of T) e).1 → (record_at (book_of T) e).0 ≡ k = λ h. ap (λ p. p.0) (shows e l) ∙ owned (omega (arith, ap (λ p. length p.1) (shows e l))) in
      record {
        whole = re.whole;
        kept = re.nodes;
        lists = ap book_lists re.book ∙ set_lists (book_of T) e k ns b alone own;
        nodes = ap (nodes_at k) re.book ∙ set_same (book_of T) e k ns b alone;
        others = λ o ne. ap (nodes_at o) re.book ∙ set_other (book_of T) e k o ns b ne own;
      }

  -- ---- a key with a list

  module _ (e : ℕ) (k : Key) (p : Placed T k (Some e)) where
    alone : Alone k e (book_of T)
    alone i b ne h q =
        let b' : i < room T = omega (arith, long) in
        w.named e i (p.0, b', ne, p.2, omega (arith, ap (λ r. length r.1) (shows i b')), sym (ap (λ r. r.0) (shows i b')) ∙ q ∙ sym p.1)

    pub nodes_here : nodes_in T k ≡ nodes_of T e
    nodes_here = found (book_of T) e k (omega (arith, long, p.0)) (ap (λ r. r.0) (shows e p.0) ∙ p.1) alone ∙ ap (λ r. r.1) (shows e p.0)

    pub at_here : at (lists_of T) k ≡ flat (nodes_of T e)
    at_here = shown (book_of T) k ∙ ap flat nodes_here

    pub changed_here : (T' : Tables) (f : Nodes → Nodes) → Rebooked T T' e (key_at T.lists.now e) (f (nodes_of T e)) → Changed T T' k (f (nodes_in T k))
    changed_here T' f re = subst (λ ns. Changed T T' k (f ns)) (sym nodes_here)
        (changes T' e k (f (nodes_of T e)) p.0 alone (λ h. p.1) (subst (λ q. Rebooked T T' e q (f (nodes_of T e))) p.1 re))

  -- ---- a key without

  module _ (k : Key) (p : Placed T k None) where
    absent : Absent k (book_of T)
    absent i b h q =
        let b' : i < room T = omega (arith, long) in
        p i b' (omega (arith, ap (λ r. length r.1) (shows i b'))) (sym (ap (λ r. r.0) (shows i b')) ∙ q)

    pub nodes_none : nodes_in T k ≡ []
    nodes_none = missing (book_of T) k absent

    pub at_none : at (lists_of T) k ≡ []
    at_none = shown (book_of T) k ∙ ap flat nodes_none

    pub changed_new : (T' : Tables) (e : ℕ) (ns : Nodes) → e < room T → length (nodes_of T e) ≡ 0 → Rebooked T T' e k ns → Changed T T' k ns
    changed_new T' e ns l z re = changes T' e k ns l (missing_alone (book_of T) k e absent) (λ h. absurd (omega arith)) re

  -- ---- the keys by rank

  pub keys_marked : keys_of (lists_of T) ≡ keys_of (marked T.lists.now)
  keys_marked = marked_keys (book_of T) T.lists.now (book_long T)
      (λ i b. ap (λ r. r.0) (shows i (omega (arith, w.sized.0))))
      (λ i b.
      let b' : i < room T = omega (arith, w.sized.0) in
      let e = ap (λ r. length (flat r.1)) (shows i b') in (
        λ z. e ∙ ap (λ ms. length (flat (map (values_at T.nodes.now) ms))) (first_none (room T) (links_of T) w.linked i b' z),
        λ ne. omega (arith, e, used_here T w.linked i b' ne, few_nodes (nodes_of T i) (loaded_filled T w i b')),
      ))

-- where the list of a key has an element, there is a record of the key
pub place_there : (T : Tables) (w : Whole T) (k : Key) (i : ℕ) (r : Option ℕ) → Placed T k r → i < length (at (lists_of T) k) → IsSome r
place_there T w k i None p h = absurd (omega (arith, ap length (at_none T w k p)))
place_there T w k i (Some e) p h = refl
