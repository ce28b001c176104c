-- What a write to one node leaves of the table, by the nodes' numbers.
use Rattle.std.proofs.Common.{◌≡◌, ℕ, zero, suc, ◌-◌, ◌<◌, ◌≤◌, ◌≢◌, List, [], map, length, get_or, set, sym, refl, ap, ◌∙◌, arith, get_or-set_other, get_or-set_same}
use Rattle.std.proofs.Math.ListN.{length-map, length-set}
use Rattle.std.proofs.Math.Path.{transport}
use Rattle.std.proofs.Math.Seq.{map-set, map-set_same}
use Rattle.std.proofs.lemmas.List.{get_or-map}
use Rattle.store.specs.Lists.{Value}
use Rattle.listpack.specs.declared.pack.Listpack.{Listpack}
use Rattle.listpack.specs.Packs.{values_in}
use Rattle.links.specs.Links.{from}
use Rattle.records.specs.declared.record.ListRecord.{ListRecord}
use Rattle.quicklist.specs.declared.table.Node.{Node}
use Rattle.quicklist.specs.Tables.{next_in, prev_in, values_at, Ahead, Behind, Joined, Refilled}
use Rattle.quicklist.specs.Chains.{SplicedOut}

-- a field of the node with the number n, read
pub read : {X : Type 0} (f : Node → X) (xs : List Node) (n : ℕ) (d : Node) (z : X) → n < length xs → f (get_or xs n d) ≡ get_or (map f xs) n z
read f xs n d z l = sym (get_or-map f xs n d z l)

-- a field after a write: there, elsewhere, and where the write leaves it
module _ {X : Type 0} (f : Node → X) (xs : List Node) (n : ℕ) (y : Node) (z : X) where
  pub wrote_here : n < length xs → get_or (map f (set xs n y)) n z ≡ f y
  wrote_here l = ap (λ ys. get_or ys n z) (map-set f xs n y) ∙ get_or-set_same (map f xs) n (f y) z (omega (arith, length-map xs f))

  pub wrote_else : (m : ℕ) → m ≢ n → get_or (map f (set xs n y)) m z ≡ get_or (map f xs) m z
  wrote_else m ne = ap (λ ys. get_or ys m z) (map-set f xs n y) ∙ get_or-set_other (map f xs) n m (f y) z ne

  pub wrote_same : (d : Node) → f y ≡ f (get_or xs n d) → (m : ℕ) → get_or (map f (set xs n y)) m z ≡ get_or (map f xs) m z
  wrote_same d e m = ap (λ ys. get_or ys m z) (map-set_same f xs n y d e)

pub next_read : (xs : List Node) (h p : ℕ) (d : Node) → p ≢ 0 → p ≤ length xs → (get_or xs (p - 1) d).next ≡ from h (next_in xs) p
next_read xs h zero d ne l = absurd (ne refl)
next_read xs h (suc k) d ne l = read (λ x. x.next) xs (suc k - 1) d 0 (omega arith)

pub led : (xs : List Node) (h p q : ℕ) (y d : Node) → p ≢ 0 → p ≤ length xs → y.next ≡ q → y.prev ≡ (get_or xs (p - 1) d).prev → y.pack ≡ (get_or xs (p - 1) d).pack → Ahead xs h (set xs (p - 1) y) h p q
led xs h zero q y d ne l e v w = absurd (ne refl)
led xs h (suc k) q y d ne l e v w = record {
  here = wrote_here (λ x. x.next) xs (suc k - 1) y 0 (omega arith) ∙ e;
  else = other;
  prevs = λ m. wrote_same (λ x. x.prev) xs (suc k - 1) y 0 d v (m - 1);
  packs = λ m. wrote_same (λ x. values_in x.pack) xs (suc k - 1) y [] d (ap values_in w) (m - 1);
}
  where
    other : (m : ℕ) → m ≢ suc k → from h (next_in (set xs (suc k - 1) y)) m ≡ from h (next_in xs) m
    other zero o = refl
    other (suc m) o = wrote_else (λ x. x.next) xs (suc k - 1) y 0 (suc m - 1) (λ z. o (omega arith))

pub trailed : (xs : List Node) (h p q : ℕ) (y d : Node) → q ≢ 0 → q ≤ length xs → y.prev ≡ p → y.next ≡ (get_or xs (q - 1) d).next → y.pack ≡ (get_or xs (q - 1) d).pack → Behind xs h (set xs (q - 1) y) h q p
trailed xs h p zero y d ne l e v w = absurd (ne refl)
trailed xs h p (suc k) y d ne l e v w = record {
  here = wrote_here (λ x. x.prev) xs (suc k - 1) y 0 (omega arith) ∙ e;
  else = other;
  nexts = λ m. wrote_same (λ x. x.next) xs (suc k - 1) y 0 d v (m - 1);
  packs = λ m. wrote_same (λ x. values_in x.pack) xs (suc k - 1) y [] d (ap values_in w) (m - 1);
}
  where
    other : (m : ℕ) → m ≢ suc k → from h (prev_in (set xs (suc k - 1) y)) m ≡ from h (prev_in xs) m
    other zero o = refl
    other (suc m) o = wrote_else (λ x. x.prev) xs (suc k - 1) y 0 (suc m - 1) (λ z. o (omega arith))

from_same : (h : ℕ) (f g : ℕ → ℕ) (m : ℕ) → ((n : ℕ) → g n ≡ f n) → from h g m ≡ from h f m
from_same h f g zero e = refl
from_same h f g (suc m) e = e (suc m)

pub joined : (xs ys zs : List Node) (first last first' last' p q : ℕ) → Ahead xs first ys first' p q → Behind ys last zs last' q p → Joined xs first last zs first' last' p q
joined xs ys zs first last first' last' p q a b = record {
  tied = record {
    next_here = from_same first' (next_in ys) (next_in zs) p b.nexts ∙ a.here;
    next_else = λ m ne. from_same first' (next_in ys) (next_in zs) m b.nexts ∙ a.else m ne;
    prev_here = b.here;
    prev_else = λ m ne. b.else m ne ∙ from_same last (prev_in xs) (prev_in ys) m a.prevs;
  };
  packs = λ m. b.packs m ∙ a.packs m;
}

-- ---- the values of one node

pub values_read : (xs : List Node) (n : ℕ) (d : Node) → 0 < n → n ≤ length xs → values_in (get_or xs (n - 1) d).pack ≡ values_at xs n
values_read xs n d o l = read (λ x. values_in x.pack) xs (n - 1) d [] (omega arith)

pub refilled : (xs : List Node) (n : ℕ) (y d : Node) (vs : List Value) → 0 < n → n ≤ length xs → y.next ≡ (get_or xs (n - 1) d).next → y.prev ≡ (get_or xs (n - 1) d).prev → values_in y.pack ≡ vs → Refilled xs (set xs (n - 1) y) n vs
refilled xs n y d vs o l e v w = record {
  nexts = ap (λ ms m. get_or ms (m - 1) 0) (map-set_same (λ (x : Node). x.next) xs (n - 1) y d e);
  prevs = ap (λ ms m. get_or ms (m - 1) 0) (map-set_same (λ (x : Node). x.prev) xs (n - 1) y d v);
  here = wrote_here (λ x. values_in x.pack) xs (n - 1) y [] (omega arith) ∙ w;
  else = λ m k ne. wrote_else (λ x. values_in x.pack) xs (n - 1) y [] (m - 1) (λ z. ne (omega arith));
}

-- the listpack of one node written over
abbrev pub repacked : List Node → ℕ → Node → Listpack → List Node
repacked xs n d p = set xs (n - 1) (record { next = (get_or xs (n - 1) d).next; prev = (get_or xs (n - 1) d).prev; pack = p })

pub repacked_long : (xs : List Node) (n : ℕ) (d : Node) (p : Listpack) → length (repacked xs n d p) ≡ length xs
repacked_long xs n d p = length-set xs (n - 1) _

pub repacked_refills : (xs : List Node) (n : ℕ) (d : Node) (p : Listpack) (vs : List Value) → 0 < n → n ≤ length xs → values_in p ≡ vs → Refilled xs (repacked xs n d p) n vs
repacked_refills xs n d p vs o l w = refilled xs n _ d vs o l refl refl w

-- ---- a node taken out of a list

pub spliced_out : (xs ys : List Node) (r r' : ListRecord) (free n : ℕ) (x a b c : Node) → 0 < n → n ≤ length xs → length ys ≡ length xs
    → Joined xs r.first r.last ys r'.first r'.last (get_or xs (n - 1) a).prev (get_or xs (n - 1) b).next
    → x.next ≡ free → x.prev ≡ (get_or ys (n - 1) c).prev → x.pack ≡ (get_or ys (n - 1) c).pack → r'.name ≡ r.name → r'.count ≡ r.count → r'.next ≡ r.next
    → SplicedOut xs r free (set ys (n - 1) x) r' n n
spliced_out xs ys r r' free n x a b c o l len tied e v w name count next =
    let p : (get_or xs (n - 1) a).prev ≡ prev_in xs n = read (λ (y : Node). y.prev) xs (n - 1) a 0 (omega arith) in
    let q : (get_or xs (n - 1) b).next ≡ next_in xs n = read (λ (y : Node). y.next) xs (n - 1) b 0 (omega arith) in
    record {
      between = ys;
      tied = transport (λ j. Joined xs r.first r.last ys r'.first r'.last (p j) (q j)) tied;
      led = record {
        here = wrote_here (λ (y : Node). y.next) ys (n - 1) x 0 (omega arith) ∙ e;
        else = λ m k ne. wrote_else (λ (y : Node). y.next) ys (n - 1) x 0 (m - 1) (λ z. ne (omega arith));
      };
      prevs = ap (λ ms k. get_or ms (k - 1) 0) (map-set_same (λ (y : Node). y.prev) ys (n - 1) x c v);
      packs = λ m. wrote_same (λ (y : Node). values_in y.pack) ys (n - 1) x [] c (ap values_in w) (m - 1);
      freed = refl;
      same = (name, count, next);
    }
