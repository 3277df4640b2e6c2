-- `strip_value` meets its contract: where nothing is refused the field lies within the slice, and `field_at` reads it. Assumes nothing.
use mathlib.Core.Path.{refl, sym, ◌∙◌}
use Rattle.bits.proofs.RefusalLaws.{number_ne, if_refused, if_done_lem}
use Rattle.host.specs.Host.{host_value}
use Rattle.host.proofs.HostLaws.{done-within}
use Rattle.host.proofs.strip_value.Goals as goal

pub field_at-requires : goal.field_at-requires
field_at-requires c = done-within _ _ _ (sym c.in-Ok.ensures)

pub returns-in-Ok : goal.returns-in-Ok
unfolding host_value
returns-in-Ok c = let k = c in rw (← c.order_of.ensures) (c.field_at.ensures ∙ if_done_lem k.in-Ok.ensures _ _ refl)

pub returns-in-Err : goal.returns-in-Err
unfolding host_value
returns-in-Err c = if_refused c.in-Err.ensures _ _ (number_ne _)
