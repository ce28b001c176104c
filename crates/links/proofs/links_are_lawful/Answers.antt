use Rattle.std.proofs.Common.{◌∷◌, ◌++◌, refl}
use Rattle.links.specs.Links.{spare}
use Rattle.links.proofs.Cleared.{cleared}
use Rattle.links.proofs.Tables.{relinked, spare_split, taken, placed}
use Rattle.links.proofs.links_are_lawful.Goals as goal

pub returns : goal.returns
returns c = record {
  clears = λ size next prev leads. cleared size next leads prev (λ e. 0) (λ e. 0) (λ e. refl) (λ e. refl);
  takes_out = λ size s t e n ls rs sound l is out. relinked size s t sound e l (ls ++ rs) (n ∷ spare size s) (taken size s sound e l ls n rs is t out.next out.tied out.led out.free out.firsts out.lasts);
  puts_in = λ size s t e ls rs sound l is some put.
      let fs = spare_split size s sound some in (
        fs.0,
        fs.1,
        relinked size s t sound e l (ls ++ s.free ∷ rs) fs.0
            (placed size s sound some e l ls rs is t put.next put.prev put.first put.last _ _ refl refl put.tied put.again put.free put.firsts put.lasts),
      );
}
