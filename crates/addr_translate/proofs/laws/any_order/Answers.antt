use Rattle.std.proofs.Common.{ap}
use Rattle.std.specs.Option.{option_map}
use Rattle.memory_pool.specs.Regions.{memory_len}
use Rattle.addr_translate.specs.Mapped.{mapped_blocks}
use Rattle.addr_translate.specs.Maps.{place_in}
use Rattle.addr_translate.proofs.Found.{found_permuted}
use Rattle.addr_translate.proofs.Sound.{mapped_sound, permuted_sound}
use Rattle.addr_translate.proofs.laws.any_order.Goals as goal

pub returns : goal.returns
returns c = λ regions placed map sound good is da len some.
    let blocks = mapped_blocks regions placed in
    let all = permuted_sound blocks map.blocks (memory_len regions) is.same (mapped_sound regions placed sound good) in
    ap (option_map (place_in da)) (found_permuted blocks map.blocks da len is.same all.apart some)
