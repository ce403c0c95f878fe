-- What a demo commands can be run.
use Rattle.std.proofs.Common.{◌≡◌, ◌<◌, ℕ, Bool, true, false, cond, arith, List, [], ◌∷◌, ◌++◌, length, replicate, zero, suc, ltb}
use Rattle.std.proofs.lemmas.List.{length-replicate}
use Rattle.rp_base.specs.declared.kinds.DriverKind.TheVariants as driver
use Rattle.script_lang.specs.declared.commands.Command.{Command}
use Rattle.script_lang.specs.declared.commands.Command.TheVariants as command
use Rattle.script_lang.specs.declared.commands.RegionSet.TheVariants as regions
use Rattle.script_lang.specs.Runnable.{AreRunnable, IsRecipe}
use Rattle.image_maker.specs.Demo.{core_commands, demo_commands, first_sessions, number_at, reply_length, sample_channel, session_commands, session_core, worker_lines}

appended : (front more : List Command) → AreRunnable front → AreRunnable more → AreRunnable (front ++ more)
appended [] more one two = two
appended (first ∷ rest) more one two = (one.0, appended rest more one.1 two)

is_recipe : (reply : ℕ) → reply < 497 → IsRecipe (worker_lines reply)
is_recipe reply small =
    let same : length {A = ℕ} (replicate {A = ℕ} reply 90) ≡ reply = length-replicate {A = ℕ} reply 90 in
    (omega arith, (omega arith, (omega arith, ((omega arith, omega arith, omega arith), (tt, ((omega arith, omega arith, omega arith, omega (arith, small)), ((omega arith, omega arith), (tt, ((omega arith, omega arith, omega arith), ((omega arith, omega (arith, same, small), omega arith), (omega arith, ((omega arith, omega arith), ((omega arith, omega arith, omega arith), ((omega arith, omega arith, omega arith), tt))))))))))))))

core_is_runnable : (session : ℕ) → AreRunnable (core_commands session)
core_is_runnable session = go (ltb session 8)
  where
    go : (b : Bool)
        → AreRunnable (cond b (command.Core (session_core session) regions.Standard 128
        ∷ command.Driver (session_core session) sample_channel driver.Sample ∷ []) [])
    go true = ((omega arith, omega arith), (tt, tt))
    go false = tt

session_is_runnable : (session reply : ℕ) → reply < 497 → AreRunnable (session_commands session reply)
session_is_runnable session reply small =
    appended (core_commands session) _ (core_is_runnable session) (is_recipe reply small, (tt, ((omega arith, omega arith), (tt, tt))))

sessions_are_runnable : (seed count : ℕ) → AreRunnable (first_sessions seed count)
sessions_are_runnable seed zero = tt
sessions_are_runnable seed (suc session) =
    appended (first_sessions seed session) _ (sessions_are_runnable seed session)
    (session_is_runnable session (reply_length (number_at seed (suc session))) (omega arith))

pub demo_is_runnable : (sessions : ℕ) → AreRunnable (demo_commands sessions)
unfolding demo_commands
demo_is_runnable sessions = (tt, sessions_are_runnable sessions sessions)
