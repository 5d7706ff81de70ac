-- `image_writing::writing::write_image` meets its contract.
use Rattle.image_writing.proofs.WriteWays.{format_fits, plan_fits, clock_fits, nodes_fit, wrote_image}
use Rattle.image_writing.proofs.writing.write_image.Goals as goal

pub write_at-after_format-requires : goal.write_at-after_format-requires
write_at-after_format-requires c = format_fits c.args.store.now c.args.nodes c.args.buffer.now c.requires.2

pub write_at-after_plan-requires : goal.write_at-after_plan-requires
write_at-after_plan-requires c =
    plan_fits c.args.store.now c.args.nodes c.args.buffer.now c.requires.2 c.write_at-after_format.ensures

pub write_at-after_clock-requires : goal.write_at-after_clock-requires
write_at-after_clock-requires c =
    clock_fits c.args.store.now c.args.nodes c.args.buffer.now c.requires.2 c.write_at-after_format.ensures c.write_at-after_plan.ensures

pub write_nodes-requires : goal.write_nodes-requires
write_nodes-requires c =
    (c.requires.0, c.requires.1, nodes_fit c.args.store.now c.args.nodes c.args.buffer.now c.requires.2 c.write_at-after_format.ensures c.write_at-after_plan.ensures c.write_at-after_clock.ensures)

pub returns : goal.returns
returns c =
    wrote_image c.args.store.now c.args.nodes c.args.buffer.now c.requires.2 c.write_at-after_format.ensures c.write_at-after_plan.ensures c.write_at-after_clock.ensures c.write_nodes.ensures
