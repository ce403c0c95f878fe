use Rattle.std.proofs.Common.{◌≡◌, ◌++◌}
use Rattle.image_maker.specs.Segments.{segment_count}
use Rattle.elf_writer.specs.Headers.{file_header}
use Rattle.image_maker.specs.Images.{entry_address, image_with}
use Rattle.image_maker.proofs.Joins.{two_parts}
use Rattle.image_maker.proofs.layout.put_plain.Goals as goal

pub returns : goal.returns
unfolding image_with
returns c =
    let lines = c.args.lines.now in
    let header : c.put_file_header.new.out.items ≡ c.args.out.now.items ++ file_header 2 (entry_address lines) (segment_count lines) 0 0 0 0 =
    cc (c.in_ok-put_file_header.ensures, c.entry_address.ensures, c.in_ok-segments.ensures) in
    two_parts c.args.out.now.items _ _ c.put_file_header.new.out.items c.put_segments.new.out.items header c.in_ok-put_segments.ensures
