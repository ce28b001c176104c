-- One change of the store after another, by the book of its records.
use Rattle.std.proofs.Common.{◌≡◌, ℕ, suc, ◌+◌, ◌<◌, ◌≤◌, ◌≢◌, [], length, set, sym, refl, ap, ◌∙◌, subst, arith, get_or-set_other, get_or-set_same, set-set}
use Rattle.std.proofs.lemmas.List.Edits.{length-remove}
use Rattle.std.proofs.lemmas.List.{length-set}
use Rattle.store.specs.Limits.{longest_value}
use Rattle.store.specs.Lists.{Value}
use Rattle.order.specs.Keys.{Key}
use Rattle.listpack.specs.Packs.{takes, swaps}
use Rattle.listpack.proofs.Sizes.{lone}
use Rattle.nodes.specs.Nodes.{Nodes, flat, Filled, cut, added, changed}
use Rattle.nodes.specs.Books.{record_at}
use Rattle.nodes.proofs.NodeLaws.{flat_cut, flat_changed, filled_changed}
use Rattle.links.specs.Links.{sum, Sound, Pool}
use Rattle.links.proofs.Sums.{sum_one}
use Rattle.records.specs.Records.{key_at}
use Rattle.quicklist.specs.declared.table.Tables.{Tables}
use Rattle.quicklist.specs.Tables.{count_at, next_list, used, room, links_of, nodes_of, book_of, Whole, Relisted, Written, Rebooked}
use Rattle.quicklist.proofs.Wholes.{book_long, book_at, loaded_filled, some_node, rebooked, pool_kept}

pub rebook_again : (T T₁ T₂ : Tables) (e : ℕ) (k k₁ : Key) (ns ms : Nodes) → Rebooked T T₁ e k ns → Rebooked T₁ T₂ e k₁ ms → Rebooked T T₂ e k₁ ms
rebook_again T T₁ T₂ e k k₁ ns ms a b = record {
  whole = b.whole;
  book = b.book ∙ ap (λ p. set p e (k₁, ms)) a.book ∙ set-set (book_of T) e (k, ns) (k₁, ms);
  nodes = b.nodes ∙ a.nodes;
}

-- ---- what a change leaves at a place

module _ (T T₁ : Tables) (e : ℕ) (k : Key) (ns : Nodes) (w : Whole T) (l : e < room T) (re : Rebooked T T₁ e k ns) where
  abbrev long : length T₁.lists.now ≡ room T
  long = re.whole.sized.0 ∙ re.nodes

  here : record_at (book_of T₁) e ≡ (k, ns)
  here = ap (λ b. record_at b e) re.book ∙ get_or-set_same (book_of T) e (k, ns) ([], []) (omega (arith, book_long T, w.sized.0))

  is_here : ◌≡◌ {A = Key × Nodes} (key_at T₁.lists.now e, nodes_of T₁ e) (k, ns)
  is_here = sym (book_at T₁ e (omega (arith, long))) ∙ here

  pub key_then : key_at T₁.lists.now e ≡ k
  key_then = ap (λ p. p.0) is_here

  pub nodes_then : nodes_of T₁ e ≡ ns
  nodes_then = ap (λ p. p.1) is_here

  pub nodes_other : (i : ℕ) → i < room T → i ≢ e → nodes_of T₁ i ≡ nodes_of T i
  nodes_other i b ne = ap (λ p. p.1) (sym (book_at T₁ i (omega (arith, long))) ∙ ap (λ p. record_at p i) re.book ∙ get_or-set_other (book_of T) e i (k, ns) ([], []) ne ∙ book_at T i (omega (arith, w.sized.0)))

  pub held_then : T₁.held + length (flat (nodes_of T e)) ≡ T.held + length (flat ns)
  held_then = omega (
    arith,
    w.totalled,
    re.whole.totalled,
    ap (sum (λ i. length (flat (nodes_of T₁ i)))) re.nodes,
    ap (λ ms. length (flat ms)) nodes_then,
    sum_one (λ i. length (flat (nodes_of T i))) (λ i. length (flat (nodes_of T₁ i))) e (room T) l (λ i b ne. ap (λ ms. length (flat ms)) (nodes_other i b ne)),
  )

-- ---- a list with as many elements as before

pub restated : (T T₁ : Tables) (e : ℕ) (ns : Nodes) → Whole T → e < room T → 0 < length (nodes_of T e) → Relisted T T₁ e ns → Sound (room T₁) (links_of T₁) → Filled ns → length (flat ns) ≡ length (flat (nodes_of T e)) → 0 < length (flat ns)
    → Rebooked T T₁ e (key_at T.lists.now e) ns
restated T T₁ e ns w l was re sound filled same some =
    let k = key_at T.lists.now e in
    let c = count_at T₁.lists.now e in
    let next = next_list T₁.lists.now (suc e) in
    let wr : Written T₁ T₁ e k c next = record {
      key = re.keys e;
      keys = λ i ne. refl;
      count = refl;
      counts = λ i ne. refl;
      link = refl;
      links = λ n o ne. refl;
      firsts = refl;
      lasts = refl;
      long = refl;
      nodes = refl;
      node = refl;
      free = refl;
      held = refl;
    } in
    rebooked T T₁ T₁ e k c next ns w l re sound wr filled (re.counts e ∙ w.counted e l ∙ sym same) T₁.free_list T₁.held
    (omega (arith, re.total, same)) (omega (arith, re.total, w.within)) (λ i b ne h q. w.named e i (l, b, ne, was, h, q))
    (subst (Pool (room T) (next_list T₁.lists.now) (used T₁.lists.now)) (sym re.free)
    (pool_kept T T₁ T₁ e k c next ns w l re sound wr was (some_node ns some) (re.nexts (suc e)))) T₁.same T₁.linked

-- ---- a value written over

module _ (T T₁ : Tables) (e i : ℕ) (v : Value) (w : Whole T) (l : e < room T) (there : i < length (flat (nodes_of T e))) (short : length v ≤ longest_value) (sound : Sound (room T₁) (links_of T₁)) where
  was : 0 < length (nodes_of T e)
  was = some_node (nodes_of T e) (omega arith)

  -- in its node
  pub written_over : Relisted T T₁ e (changed takes swaps (nodes_of T e) i v) → Rebooked T T₁ e (key_at T.lists.now e) (changed takes swaps (nodes_of T e) i v)
  written_over re =
      let same = ap length (flat_changed takes swaps (nodes_of T e) i v there) ∙ length-set (flat (nodes_of T e)) i v in
      restated T T₁ e (changed takes swaps (nodes_of T e) i v) w l was re sound (filled_changed takes swaps (nodes_of T e) i v (lone v short) (loaded_filled T w e l)) same (omega (arith, same))

  -- or taken out and added
  module _ (re : Relisted T T₁ e (nodes_of T e)) (rule : changed takes swaps (nodes_of T e) i v ≡ added takes (cut (nodes_of T e) i) i v) (more : 1 < length (flat (nodes_of T e))) where
    pub still : Rebooked T T₁ e (key_at T.lists.now e) (nodes_of T e)
    still = restated T T₁ e (nodes_of T e) w l was re sound (loaded_filled T w e l) refl (omega arith)

    pub still_there : i < length (flat (nodes_of T₁ e))
    still_there = omega (arith, ap (λ ms. length (flat ms)) re.here)

    module _ (T₂ : Tables) (out : Rebooked T₁ T₂ e (key_at T₁.lists.now e) (cut (nodes_of T₁ e) i)) where
      l₁ : e < room T₁
      l₁ = omega (arith, re.nodes)

      nodes₂ : nodes_of T₂ e ≡ cut (nodes_of T e) i
      nodes₂ = nodes_then T₁ T₂ e _ _ still.whole l₁ out ∙ ap (λ ms. cut ms i) re.here

      fewer : length (flat (nodes_of T₂ e)) + 1 ≡ length (flat (nodes_of T e))
      fewer = ap (λ ms. length (flat ms) + 1) nodes₂ ∙ ap (λ vs. length vs + 1) (flat_cut (nodes_of T e) i there) ∙ length-remove (flat (nodes_of T e)) i there

      pub then_used : 0 < length (nodes_of T₂ e)
      then_used = some_node (nodes_of T₂ e) (omega (arith, fewer))

      pub then_there : i ≤ length (flat (nodes_of T₂ e))
      then_there = omega (arith, fewer)

      pub then_room : T₂.held < room T₂
      then_room = omega (arith, out.nodes, re.nodes, still.whole.within, fewer, ap (λ ms. length (flat ms)) nodes₂, ap (λ ms. length (flat (cut ms i))) re.here, ap (λ ms. length (flat ms)) re.here, held_then T₁ T₂ e _ _ still.whole l₁ out)

      pub moved : (T₃ : Tables) → Rebooked T₂ T₃ e (key_at T₂.lists.now e) (added takes (nodes_of T₂ e) i v) → Rebooked T T₃ e (key_at T.lists.now e) (changed takes swaps (nodes_of T e) i v)
      moved T₃ into =
          let k : key_at T₂.lists.now e ≡ key_at T.lists.now e = key_then T₁ T₂ e _ _ still.whole l₁ out ∙ re.keys e in
          subst (λ q. Rebooked T T₃ e q (changed takes swaps (nodes_of T e) i v)) k
          (subst (Rebooked T T₃ e (key_at T₂.lists.now e)) (ap (λ ms. added takes ms i v) nodes₂ ∙ sym rule)
          (rebook_again T T₂ T₃ e _ _ _ _ (rebook_again T T₁ T₂ e _ _ _ _ still out) into))
