use Rattle.store.proofs.RowLaws.{at_rows, held_rows}
use Rattle.store.proofs.SpotLaws.{spot_row, spot_before, spot_past}
use Rattle.store.proofs.rows_are_lawful.Goals as goal

pub returns : goal.returns
returns c = record { shows = at_rows; counts = held_rows; stands = spot_row; before = spot_before; past = spot_past }
