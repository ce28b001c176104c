-- What the nodes and the list records of a quicklist show, and what is written to them.
use Rattle.std.specs.Prelude.{◌≡◌, ℕ, zero, suc, ◌-◌, ◌<◌, cond, ◌≢◌, List, [], map, ◌==◌, slice_index, slice_index_or}
use Rattle.store.specs.Lists.{Value}
use Rattle.listpack.specs.declared.pack.Listpack.{Listpack}
use Rattle.listpack.specs.Packs.{values_in}
use Rattle.links.specs.Links.{from, Links, Tied, Led}
use Rattle.records.specs.declared.record.ListRecord.{ListRecord}
use Rattle.records.specs.Records.{first_at}
use Rattle.quicklist.specs.declared.table.Node.{Node}

-- ---- nodes by their numbers: number n lies at index n - 1

abbrev pub next_in : List Node → ℕ → ℕ
next_in nodes n = slice_index (map (λ (x : Node). x.next) nodes) (n - 1)

abbrev pub prev_in : List Node → ℕ → ℕ
prev_in nodes n = slice_index (map (λ (x : Node). x.prev) nodes) (n - 1)

abbrev pub values_at : List Node → ℕ → List Value
values_at nodes n = slice_index_or (map (λ (x : Node). values_in x.pack) nodes) (n - 1) []

-- ---- list records by their places

abbrev pub last_at : List ListRecord → ℕ → ℕ
last_at lists e = slice_index (map (λ (r : ListRecord). r.last) lists) e

abbrev pub count_at : List ListRecord → ℕ → ℕ
count_at lists e = slice_index (map (λ (r : ListRecord). r.count) lists) e

-- the next free record: number n lies at index n - 1
abbrev pub next_list : List ListRecord → ℕ → ℕ
next_list lists n = slice_index (map (λ (r : ListRecord). r.next) lists) (n - 1)

-- 1 for the number of a record in use, one with a first node, and 0 for any other
abbrev pub used : List ListRecord → ℕ → ℕ
used lists zero = 0
used lists (suc e) = cond (first_at lists e == 0) 0 1

-- ---- the links between nodes, the ends of each list, and the first free node

abbrev pub links : List Node → List ListRecord → ℕ → Links
links nodes lists free = record { next = next_in nodes; prev = prev_in nodes; first = first_at lists; last = last_at lists; free = free }

-- ---- one write

-- p leads to q now in the list with this first node, and nothing else has changed
pub record Ahead (xs : List Node) (first : ℕ) (ys : List Node) (first' p q : ℕ) : Type 0 where
  pub here : from first' (next_in ys) p ≡ q
  pub else : (m : ℕ) → m ≢ p → from first' (next_in ys) m ≡ from first (next_in xs) m
  pub prevs : (m : ℕ) → prev_in ys m ≡ prev_in xs m
  pub packs : (m : ℕ) → values_at ys m ≡ values_at xs m

-- q leads back to p now in the list with this last node, and nothing else has changed
pub record Behind (xs : List Node) (last : ℕ) (ys : List Node) (last' q p : ℕ) : Type 0 where
  pub here : from last' (prev_in ys) q ≡ p
  pub else : (m : ℕ) → m ≢ q → from last' (prev_in ys) m ≡ from last (prev_in xs) m
  pub nexts : (m : ℕ) → next_in ys m ≡ next_in xs m
  pub packs : (m : ℕ) → values_at ys m ≡ values_at xs m

-- q follows p now in the list with these ends, and nothing else has changed
pub record Joined (xs : List Node) (first last : ℕ) (ys : List Node) (first' last' p q : ℕ) : Type 0 where
  pub tied : Tied (next_in xs) (prev_in xs) first last (next_in ys) (prev_in ys) first' last' p q
  pub packs : (m : ℕ) → values_at ys m ≡ values_at xs m

-- node n holds vs now, and nothing else has changed
pub record Refilled (xs ys : List Node) (n : ℕ) (vs : List Value) : Type 0 where
  pub nexts : next_in ys ≡ next_in xs
  pub prevs : prev_in ys ≡ prev_in xs
  pub here : values_at ys n ≡ vs
  pub else : (m : ℕ) → 0 < m → m ≢ n → values_at ys m ≡ values_at xs m

-- ---- a node put into a list, or taken out

-- the first free node holds the values of the listpack and stands after p in the list with this record: it follows p, and what followed p follows it
pub record SplicedIn (xs : List Node) (r : ListRecord) (free : ℕ) (ys : List Node) (r' : ListRecord) (free' p : ℕ) (pack : Listpack) : Type 0 where
  pub before : List Node
  pub between : List Node
  pub first : ℕ
  pub last : ℕ
  pub filled : Refilled xs before free (values_in pack)
  pub tied : Joined before r.first r.last between first last p free
  pub again : Joined between first last ys r'.first r'.last free (from r.first (next_in xs) p)
  pub rest : free' ≡ next_in xs free
  pub same : (r'.name ≡ r.name) × (r'.count ≡ r.count) × (r'.next ≡ r.next)

-- node n is free and the first such: what followed it follows what it followed, and it leads to the other free nodes
pub record SplicedOut (xs : List Node) (r : ListRecord) (free : ℕ) (ys : List Node) (r' : ListRecord) (free' n : ℕ) : Type 0 where
  pub between : List Node
  pub tied : Joined xs r.first r.last between r'.first r'.last (prev_in xs n) (next_in xs n)
  pub led : Led (next_in between) (next_in ys) n free
  pub prevs : prev_in ys ≡ prev_in between
  pub packs : (m : ℕ) → values_at ys m ≡ values_at between m
  pub freed : free' ≡ n
  pub same : (r'.name ≡ r.name) × (r'.count ≡ r.count) × (r'.next ≡ r.next)
