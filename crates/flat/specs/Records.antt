-- A record as a row, and a flat store as the rows of the records in use.
use Rattle.std.specs.Prelude.{ℕ, List, [], ◌∷◌, map, length, take}
use Rattle.std.proofs.Common.{arith, length-take}
use Rattle.std.specs.List.{AllByRecursion}
use Rattle.std.proofs.lemmas.List.{length-map}
use Rattle.order.specs.Keys.{Key, key_in}
use Rattle.store.specs.Answers.{value_in}
use Rattle.store.specs.Lists.{Value, Lists, StoreLaws}
use Rattle.store.specs.Rows.{Row, Short, lists_of}
use Rattle.store.proofs.RowLaws.{rows_laws}
use Rattle.flat.specs.declared.table.Record.{Record}
use Rattle.flat.specs.declared.table.Flat.{Flat}

abbrev pub key_of : Record → Key
key_of r = key_in r.name

abbrev pub value_of : Record → Value
value_of r = value_in r.value

abbrev pub row : Record → Row
row r = (key_of r, value_of r)

abbrev pub rows : List Record → List Row
rows rs = map row rs

-- a store's rows are those of the records in use, its lists what these show, and its capacity the table's length
abbrev pub rows_in : Flat → List Row
rows_in s = rows (take s.used s.records.now)

abbrev pub lists_in : Flat → Lists
lists_in s = lists_of (rows_in s)

abbrev pub room_of : Flat → ℕ
room_of s = length s.records.now

-- ---- what holds of the lists of every flat store

short : (rs : List Record) → AllByRecursion Short (rows rs)
short [] = tt
short (r ∷ rs) = ((simp length-take (omega arith), simp length-take (omega arith)), short rs)

pub flat_laws : (s : Flat) → StoreLaws (room_of s) (lists_in s)
flat_laws s = rows_laws (room_of s) (rows_in s) s.some s.few (simp (length-map, length-take) (omega (arith, s.fits))) (short (take s.used s.records.now))
