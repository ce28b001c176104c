-- The order of keys is total: the law that the orders on keys cite. Nothing here needs to be believed.
use Rattle.std.specs.Prelude.{◌≡◌, [], ◌∷◌, refl}
use Rattle.std.specs.declared.cmp.Ordering.TheVariants.{Less, Equal, Greater}
use Rattle.std.specs.declared.cmp.Ordering.{Ordering}
use Rattle.std.proofs.Common.{sym, ap, ◌∙◌, true≢false}
use Rattle.std.specs.Cmp.Lexicographic.{slice_cmp, nat_list_cmp_total}
use Rattle.std.specs.Ordering.{is_lt, is_gt, ordering_reverse, ordering_then, nat_cmp}
use Rattle.std.proofs.lemmas.Map.Lookups.{exact_bytes}
use Rattle.order.specs.Keys.{Key, key_order}
use Rattle.order.specs.Orders.{Lawful}

-- the order of keys is std's order of slices of bytes
pub same_order : (a b : Key) → key_order a b ≡ slice_cmp nat_cmp a b
unfolding key_order
same_order [] [] = refl
same_order [] (y ∷ ys) = refl
same_order (x ∷ xs) [] = refl
same_order (x ∷ xs) (y ∷ ys) = ap (ordering_then (nat_cmp x y)) (same_order xs ys)

own : (o : Ordering) → o ≡ ordering_reverse o → o ≡ Equal
own Less h = absurd (true≢false (ap is_lt h))
own Equal h = refl
own Greater h = absurd (true≢false (ap is_gt h))

pub key_order_lawful : Lawful key_order
key_order_lawful = record {
  exact = λ a b h. exact_bytes a b (sym (same_order a b) ∙ h);
  itself = λ a. same_order a a ∙ own (slice_cmp nat_cmp a a) (nat_list_cmp_total.antisymm a a);
  turned = λ a b. same_order b a ∙ nat_list_cmp_total.antisymm b a ∙ ap ordering_reverse (sym (same_order a b));
  chained = λ a b c h g. same_order a c ∙ nat_list_cmp_total.trans a b c (sym (same_order a b) ∙ h) (sym (same_order b c) ∙ g);
}
