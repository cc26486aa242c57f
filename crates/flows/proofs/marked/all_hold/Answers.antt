use Rattle.std.proofs.Common.{refl}
use Rattle.bits.specs.Orders.{moved}
use Rattle.bits.specs.Words.{turned_left}
use Rattle.boxes.specs.Boxes.{flex, cpa, layer}
use Rattle.boxes.specs.Layouts.{layout, searched, best, choose, better, candidate, permitted}
use Rattle.field.specs.Fields.{twice, ones, inverse}
use Rattle.field.specs.Polynomials.{along}
use Rattle.flows.specs.Marked.{counted}
use Rattle.flows.specs.Strings.{number_at}
use Rattle.meanings.specs.Layers.{walk}
use Rattle.flows.proofs.marked.all_hold.Goals as goal

-- each claim works out
pub returns : goal.returns
unfolding moved turned_left flex cpa layer layout searched best choose better candidate permitted twice ones inverse along counted number_at walk
returns c =
    ((refl, (refl, (refl, tt))), ((refl, tt), ((refl, tt), ((refl, tt), ((refl, (refl, (refl, tt))), ((refl, (refl, tt)), ((refl, (refl, tt)), ((refl, (refl, tt)), ((refl, tt), ((refl, (refl, (refl, tt))), ((refl, (refl, (refl, (refl, (refl, tt))))), ((refl, (refl, (refl, tt))), tt))))))))))))
