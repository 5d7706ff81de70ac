-- `image_loading::load_in` meets its contract.
use mathlib.Core.Path.{◌≡◌, sym, ap, ◌∙◌}
use Rattle.wire.specs.Reading.{got, got_of}
use Rattle.image_reading.specs.Workers.{head_at}
use Rattle.image_loading.proofs.LoadEnds.{head_stops, plan_known, load_follows}
use Rattle.image_loading.proofs.load_in.Goals as goal
use Rattle.image_loading.proofs.load_in.Goals.{In-Ok}

-- The head was read.
head : (c : In-Ok) → got c.in-Ok.head.value c.in-Ok.head.next ≡ head_at c.args.bytes.now
head c = ap got_of (sym c.in-Ok.is) ∙ c.read_head.ensures

pub load_nodes-requires : goal.load_nodes-requires
load_nodes-requires c = plan_known c.args.bytes.now c.in-Ok.head.value (head (goal.at.load_nodes-requires c).In-Ok)

pub returns-in-Ok : goal.returns-in-Ok
returns-in-Ok c = c.load_nodes.ensures ∙ load_follows c.args.bytes.now c.in-Ok.head.value (head (goal.at.returns-in-Ok c).In-Ok)

pub returns-in-Err : goal.returns-in-Err
returns-in-Err c = c.refuse.ensures ∙ head_stops c.args.bytes.now (ap got_of (sym c.in-Err.is) ∙ c.read_head.ensures)
