-- The order of records is total: the law that the order of list records cites. Nothing here needs to be believed.
use Rattle.std.specs.Prelude.{◌≡◌, ℕ, Some, None, Option, refl}
use Rattle.std.specs.declared.cmp.Ordering.TheVariants.{Less, Equal}
use Rattle.std.proofs.Common.{ap, arith}
use Rattle.std.specs.Ordering.{ordering_reverse}
use Rattle.order.specs.Keys.{Key}
use Rattle.order.specs.Orders.{Lawful}
use Rattle.order.specs.KeyLaws.{key_order_lawful}
use Rattle.records.specs.Records.{used_order}

exact : (a b : Option Key) → used_order a b ≡ Equal → a ≡ b
exact None None h = refl
exact None (Some b) h = let z : ◌≡◌ {A = ℕ} 0 1 = cc in absurd (omega arith)
exact (Some a) None h = let z : ◌≡◌ {A = ℕ} 0 1 = cc in absurd (omega arith)
exact (Some a) (Some b) h = ap Some (key_order_lawful.exact a b h)

turned : (a b : Option Key) → used_order b a ≡ ordering_reverse (used_order a b)
turned None None = refl
turned None (Some b) = refl
turned (Some a) None = refl
turned (Some a) (Some b) = key_order_lawful.turned a b

itself : (a : Option Key) → used_order a a ≡ Equal
itself None = refl
itself (Some a) = key_order_lawful.itself a

chained : (a b c : Option Key) → used_order a b ≡ Less → used_order b c ≡ Less → used_order a c ≡ Less
chained None None c h g = g
chained None (Some b) c h g = let z : ◌≡◌ {A = ℕ} 0 1 = cc in absurd (omega arith)
chained (Some a) None None h g = h
chained (Some a) None (Some c) h g = let z : ◌≡◌ {A = ℕ} 0 1 = cc in absurd (omega arith)
chained (Some a) (Some b) None h g = refl
chained (Some a) (Some b) (Some c) h g = key_order_lawful.chained a b c h g

pub used_order_lawful : Lawful used_order
used_order_lawful = record { exact = exact; turned = turned; itself = itself; chained = chained }
