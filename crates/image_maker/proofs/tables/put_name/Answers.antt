use Rattle.image_maker.proofs.Joins.{padded_part}
use Rattle.image_maker.proofs.tables.put_name.Goals as goal

pub returns : goal.returns
returns c =
    padded_part c.args.out.now.items c.bytes-bytes.result.now c.args.name.now c.extend_from_slice.new.self.items c.extend_from_slice-2.new.self.items
    c.bytes-bytes.ensures.bytes c.in_ok-extend_from_slice.ensures.items c.in_ok-extend_from_slice-2.ensures.items
