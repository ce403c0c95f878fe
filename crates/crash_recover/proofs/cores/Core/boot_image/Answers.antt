use Rattle.std.proofs.Common.{◌≡◌, IfOk, Result, subst}
use Rattle.std.specs.Result.{result_err, result_map_both}
use Rattle.rp_io.specs.Images.{ImageAnswer}
use Rattle.fw_load.specs.declared.loading.Loaded.{Loaded}
use Rattle.crash_recover.specs.Cores.{load_view}
use Rattle.crash_recover.specs.CoreBoots.{image_fault, load_in}
use Rattle.crash_recover.specs.declared.core_faults.StartFault.{StartFault}
use Rattle.crash_recover.proofs.BootLives.{boot_runs}
use Rattle.crash_recover.proofs.cores.Core.boot_image.Goals as goal

pub returns-in_ok-run_image-in-Ok-clause-left : goal.returns-in_ok-run_image-in-Ok-clause-left
returns-in_ok-run_image-in-Ok-clause-left c =
    let core = c.args.self.now in
    let found : ImageAnswer = result_map_both (λ image. image.now) (λ why. why) c.args.found in
    let loads = c.in_ok-loaded.ensures in
    boot_runs core c.run_image.new.self c.args.name found c.args.life (load_view c.in-Ok.loaded) c.requires.needed c.requires.life
    (subst (λ (answer : Result Loaded StartFault). result_err answer ≡ image_fault core found) c.in-Ok.is loads.refused)
    (subst (λ (answer : Result Loaded StartFault). IfOk answer (λ loaded. load_view loaded ≡ load_in core found)) c.in-Ok.is loads.loaded) c.in_ok-run_image-in-Ok.ensures.left
