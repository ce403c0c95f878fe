use Rattle.std.proofs.Common.{◌≡◌, ◌+◌, ◌++◌, arith}
use Rattle.image_maker.specs.Segments.{segment_count}
use Rattle.image_maker.specs.Tables.{table_len}
use Rattle.elf_writer.specs.Headers.{file_header}
use Rattle.image_maker.specs.Images.{entry_address, section_headers, data_end, image_with}
use Rattle.image_maker.proofs.Joins.{two_parts, three_parts}
use Rattle.image_maker.proofs.layout.put_with_table.Goals as goal

pub returns : goal.returns
unfolding image_with
returns c =
    let lines = c.args.lines.now in
    let out = c.args.out.now.items in
    let start : c.in_ok-start.start ≡ data_end lines = omega (arith, c.in_ok-start.ensures, c.in_ok-data_start.ensures, c.in_ok-data_len.ensures) in
    let place : c.in_ok-place.place ≡ data_end lines + table_len lines + 27 = omega (arith, start, c.in_ok-place.ensures, c.in_ok-plus.ensures, c.in_ok-len.ensures) in
    let header : c.put_file_header.new.out.items ≡ out ++ file_header 2 (entry_address lines) (segment_count lines) (data_end lines + table_len lines + 27) 40 3 2 =
    cc (c.in_ok-put_file_header.ensures, c.entry_address.ensures, c.in_ok-segments.ensures, place) in
    let sections : c.put_section_headers.new.out.items ≡ c.extend_from_slice.new.self.items ++ section_headers c.args.da (data_end lines) (table_len lines) =
    cc (c.in_ok-put_section_headers.ensures, start, c.in_ok-len.ensures) in
    two_parts out _ _ c.extend_from_slice.new.self.items c.put_section_headers.new.out.items
    (two_parts out _ _ c.put_table.new.out.items c.extend_from_slice.new.self.items
    (three_parts out _ _ _ c.put_file_header.new.out.items c.put_segments.new.out.items c.put_table.new.out.items header c.in_ok-put_segments.ensures c.in_ok-put_table.ensures)
    c.in_ok-extend_from_slice.ensures.items)
    sections
