-- The keys of records by rank.
use Rattle.std.proofs.Common.{◌≡◌, ℕ, zero, suc, ◌+◌, List, [], ◌∷◌, length, get_or, Some, None, Option, Less, sym, refl, ◌∙◌, subst, arith}
use Rattle.std.proofs.lemmas.List.{length-map}
use Rattle.order.specs.Keys.{Key, key_order}
use Rattle.order.specs.Orders.{FirstLeast, Next, Ranked}
use Rattle.store.specs.Rows.{AtRank, names}
use Rattle.store.proofs.RankLaws.{rank_first, rank_next}
use Rattle.flat.specs.declared.table.Record.{Record}
use Rattle.flat.specs.Records.{key_of, row, rows}

-- a record to read past the end of a list of them
abbrev pub blank : Record
blank = record { name = record { len = 0; bytes = [] }; value = record { len = 0; bytes = [] } }

pub same_name : (rs : List Record) (j : ℕ) → key_of (get_or rs j blank) ≡ get_or (names (rows rs)) j []
same_name [] j = refl
same_name (r ∷ rs) zero = refl
same_name (r ∷ rs) (suc j) = same_name rs j

pub as_many : (rs : List Record) → length rs ≡ length (names (rows rs))
as_many rs = sym (length-map (rows rs) (λ p. p.0) ∙ length-map rs row)

pub same_search : (P : Key → Type 0) (rs : List Record) (r : Option ℕ) → FirstLeast key_order P (length rs) (λ j. key_of (get_or rs j blank)) r → FirstLeast key_order P (length (names (rows rs))) (λ j. get_or (names (rows rs)) j []) r
same_search P rs r h = subst (λ (f : ℕ → Key). FirstLeast key_order P (length (names (rows rs))) f r) (λ x j. same_name rs j x) (subst (λ (n : ℕ). FirstLeast key_order P n (λ j. key_of (get_or rs j blank)) r) (as_many rs) h)

pub first_rank : (rs : List Record) (r : Option ℕ) → FirstLeast key_order (λ _. Unit {0}) (length rs) (λ j. key_of (get_or rs j blank)) r → AtRank (rows rs) 0 r
first_rank rs r h = rank_first (rows rs) r (same_search (λ _. Unit {0}) rs r h)

pub next_rank : (rs : List Record) (i : ℕ) (from r : Option ℕ) → AtRank (rows rs) i from → Next key_order (length rs) (λ j. key_of (get_or rs j blank)) from r → AtRank (rows rs) (suc i) r
next_rank rs i None r w e = let k : AtRank (rows rs) i None = w in subst (AtRank (rows rs) (suc i)) (sym e) (omega arith)
next_rank rs i (Some a) r w h =
    let m : i + 1 ≡ suc i = omega arith in
    subst (λ (n : ℕ). AtRank (rows rs) n r) m (rank_next (rows rs) i a r w (same_search (λ v. key_order (get_or (names (rows rs)) a []) v ≡ Less) rs r
    (subst (λ (x : Key). FirstLeast key_order (λ v. key_order x v ≡ Less) (length rs) (λ j. key_of (get_or rs j blank)) r) (same_name rs a) h)))

-- the record of a rank has the key at that rank
pub at_rank : (rs : List Record) (rank : ℕ) (r : Option ℕ) → Ranked key_order (length rs) (λ j. key_of (get_or rs j blank)) rank r → AtRank (rows rs) rank r
unfolding Ranked
at_rank rs zero r h = first_rank rs r h
at_rank rs (suc k) r h = next_rank rs k h.0 r (at_rank rs k h.0 h.1) h.2
