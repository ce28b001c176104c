-- What each operation of a list store answers and leaves, for the lists before, `ls`, and after, `ls'`.
use Rattle.std.specs.Prelude.{◌≡◌, ℕ, ◌-◌, ◌<◌, ◌≤◌, Bool, cond, List, [], ◌∷◌, ◌++◌, length, drop, Some, None, Ok, Err, Option, Result, ◌==◌, nat_le, nat_lt, slice_index_or, slice_set}
use Rattle.std.specs.List.{insert, remove}
use Rattle.order.specs.declared.ShortBytes.{ShortBytes}
use Rattle.order.specs.Keys.{Key, longest_key, bytes_in}
use Rattle.store.specs.declared.Side.{Side}
use Rattle.store.specs.declared.Side.TheVariants.{Left, Right}
use Rattle.store.specs.declared.refusal.Refusal.{Refusal}
use Rattle.store.specs.declared.refusal.Refusal.TheVariants.{LongKey, LongValue, Full, OutOfRange}
use Rattle.store.specs.Limits.{longest_value, refusal_number}
use Rattle.store.specs.Lists.{Value, Lists, at, put, held}

-- the value in a row
abbrev pub value_in : ShortBytes longest_value → Value
value_in r = bytes_in r

-- ---- what is asked before a change

-- the number of an answer: 0 where the change was made
abbrev pub answer : {U : Type 0} → Result U Refusal → ℕ
answer (Ok _) = 0
answer (Err e) = refusal_number e

-- a question: where it fails its refusal is the answer, else the next question is asked
abbrev pub asked : Bool → Refusal → ℕ → ℕ
asked fails e next = cond fails (refusal_number e) next

abbrev pub too_long : ℕ → List ℕ → Bool
too_long most bytes = nat_lt most (length bytes)

-- asked of a key and a value alone
abbrev pub rows_answer : Key → Value → ℕ
rows_answer k v = asked (too_long longest_key k) LongKey (asked (too_long longest_value v) LongValue 0)

abbrev pub push_answer : ℕ → Lists → Key → Value → ℕ
push_answer room ls k v = asked (too_long longest_key k) LongKey (asked (too_long longest_value v) LongValue (asked (held ls == room) Full 0))

abbrev pub set_answer : Lists → Key → ℕ → Value → ℕ
set_answer ls k i v = asked (too_long longest_key k) LongKey (asked (too_long longest_value v) LongValue (asked (nat_le (length (at ls k)) i) OutOfRange 0))

abbrev pub insert_answer : ℕ → Lists → Key → ℕ → Value → ℕ
insert_answer room ls k i v = asked (too_long longest_key k) LongKey (asked (too_long longest_value v) LongValue (asked (held ls == room) Full (asked (nat_lt (length (at ls k)) i) OutOfRange 0)))

abbrev pub remove_answer : Lists → Key → ℕ → ℕ
remove_answer ls k i = asked (too_long longest_key k) LongKey (asked (nat_le (length (at ls k)) i) OutOfRange 0)

-- the answer has this number, and the lists are `new` where it is 0, else as they were
pub record Done {U : Type 0} (number : ℕ) (new ls ls' : Lists) (r : Result U Refusal) : Type 0 where
  pub tells : answer r ≡ number
  pub leaves : ls' ≡ cond (number == 0) new ls

-- ---- ends

-- a list with one more value on a side
abbrev pub joined : Side → List Value → Value → List Value
joined Left vs v = v ∷ vs
joined Right vs v = vs ++ v ∷ []

-- the index of the value on a side of a list of n values
abbrev pub place : Side → ℕ → ℕ
place Left n = 0
place Right n = n - 1

-- bytes in front, and behind them what was there
abbrev pub over : List ℕ → List ℕ → List ℕ
over out bytes = bytes ++ drop (length bytes) out

-- the item at i is copied into `out`, which has room for `most` bytes, and its length told; or there is none, and `out` stays
abbrev pub Copied : ℕ → List (List ℕ) → ℕ → List ℕ → List ℕ → Option ℕ → Type 0
Copied most items i out out' None = (length items ≤ i) × (out' ≡ out)
Copied most items i out out' (Some n) = (i < length items) × (n ≤ most) × (n ≡ length (slice_index_or items i [])) × (out' ≡ over out (slice_index_or items i []))

abbrev pub Pushed : {U : Type 0} → ℕ → Lists → Lists → Side → Key → Value → Result U Refusal → Type 0
Pushed room ls ls' s k v r = Done (push_answer room ls k v) (put ls k (joined s (at ls k) v)) ls ls' r

-- the value on a side is copied and taken out, or the list is empty
abbrev pub Popped : Lists → Lists → Side → Key → List ℕ → List ℕ → Option ℕ → Type 0
Popped ls ls' s k out out' None = (length (at ls k) ≡ 0) × (ls' ≡ ls) × (out' ≡ out)
Popped ls ls' s k out out' (Some n) = Copied longest_value (at ls k) (place s (length (at ls k))) out out' (Some n) × (ls' ≡ put ls k (remove (at ls k) (place s (length (at ls k)))))

-- ---- whole lists

abbrev pub WasSet : {U : Type 0} → Lists → Lists → Key → ℕ → Value → Result U Refusal → Type 0
WasSet ls ls' k i v r = Done (set_answer ls k i v) (put ls k (slice_set (at ls k) i v)) ls ls' r

abbrev pub Inserted : {U : Type 0} → ℕ → Lists → Lists → Key → ℕ → Value → Result U Refusal → Type 0
Inserted room ls ls' k i v r = Done (insert_answer room ls k i v) (put ls k (insert (at ls k) i v)) ls ls' r

abbrev pub Removed : {U : Type 0} → Lists → Lists → Key → ℕ → Result U Refusal → Type 0
Removed ls ls' k i r = Done (remove_answer ls k i) (put ls k (remove (at ls k) i)) ls ls' r
