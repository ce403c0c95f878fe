-- The regions of a core, as C gives them (own).
use Rattle.std.specs.Prelude.{◌==◌, List, [], ◌∷◌, ◌++◌, length, map, Option, None, option_map, if◌then◌else◌}
use Rattle.std.specs.Option.{option_or}
use Rattle.rp_base.specs.declared.kinds.RegionKind.TheVariants.{Tcm, Pool}
use Rattle.memory_pool.specs.Regions.{region_fault}
use Rattle.memory_pool.specs.declared.regions.Region.{Region}
use Rattle.c_forms.specs.Faults.{region_fault_form}
use Rattle.c_forms.specs.declared.faults.CFault.{CFault}
use Rattle.c_forms.specs.declared.regions.CRegion.{CRegion}

-- a region that was given: a pool, or one that is always mapped (own)
abbrev pub region_of : CRegion → Region
region_of given = record { kind = if given.pool == 0 then Tcm else Pool; da = given.da; pa = given.pa; len = given.len }

-- the regions that were given, in order (own)
abbrev pub regions_of : List CRegion → List Region
regions_of given = map region_of given

-- the first region that is refused after those before it, with its number (own)
abbrev pub region_refusal : List Region → List Region → Option CFault
region_refusal before [] = None
region_refusal before (next ∷ more) =
    option_or (option_map (region_fault_form (length before)) (region_fault before next)) (region_refusal (before ++ next ∷ []) more)
