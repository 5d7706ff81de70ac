-- `image_writing::writing::write_node` meets its contract.
use borrow.Author.Rules.{rules}
use Rattle.image_writing.proofs.WriteWays.{count_fits, copies_fit, wrote_node}
use Rattle.image_writing.proofs.writing.write_node.Goals as goal

pub write_at-next-requires : goal.write_at-next-requires
write_at-next-requires c = count_fits c.args.store.now c.args.node c.args.buffer.now c.args.at c.requires.2

pub write_copies-requires : goal.write_copies-requires
write_copies-requires c =
    (search rules, search rules, copies_fit c.args.store.now c.args.node c.args.buffer.now c.args.at c.requires.2 c.write_at-next.ensures)

pub returns : goal.returns
returns c = wrote_node c.args.store.now c.args.node c.args.buffer.now c.args.at c.requires.2 c.write_at-next.ensures c.write_copies.ensures
