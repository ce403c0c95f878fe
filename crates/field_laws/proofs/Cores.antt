-- What the calls of a core leave and answer has its numbers and bytes within their types.
use Rattle.std.proofs.Common.{◌≡◌, ℕ, zero, suc, ◌+◌, ◌-◌, ◌<◌, ◌≤◌, ◌^◌, ◌==◌, Bool, true, false, cond, List, [], ◌∷◌, length, Option, Some, None, IfSome, Result, Ok, Err, refl, sym, ap, ◌∙◌, subst, arith}
use Rattle.std.specs.Prelude.{All, fold, nat_lt}
use Rattle.std.specs.List.{range_with_len}
use Rattle.std.specs.Option.{option_and_then, option_map, option_or}
use Rattle.std.specs.Result.{IfOk, result_err}
use Rattle.std.proofs.lemmas.Bool.{cond_both, eqb-false, true≢false}
use Rattle.std.proofs.lemmas.List.Elements.{All-cons, All-head, All-nil, All-tail}
use Rattle.rp_io.specs.Images.{ImageAnswer}
use Rattle.rp_base.specs.declared.kinds.End.{End}
use Rattle.rp_base.specs.declared.kinds.End.TheVariants as side
use Rattle.rp_base.specs.declared.kinds.LifeState.{LifeState}
use Rattle.rp_base.specs.declared.kinds.LifeState.TheVariants.{Offline, Running, Crashed, Attached, Detached}
use Rattle.proc_state.specs.declared.answers.Left.{Left}
use Rattle.proc_state.specs.declared.answers.Left.TheVariants as left
use Rattle.proc_state.specs.declared.answers.LifeFault.{LifeFault}
use Rattle.proc_state.specs.declared.answers.LifeFault.TheVariants as life_fault
use Rattle.proc_state.specs.declared.answers.Power.{Power}
use Rattle.proc_state.specs.declared.answers.Power.TheVariants as power
use Rattle.proc_state.specs.declared.answers.Report.{Report}
use Rattle.proc_state.specs.Lives.{CoreLife, Outcome, boot_to, crash_as, first_start, handover_to, is_offline, is_up, leave_to, life_after_boot, life_after_recovery, line_of, most, new_life, recovery_state, recovery_to, refusal_of, with_user}
use Rattle.memory_pool.specs.declared.regions.Region.{Region}
use Rattle.memory_pool.specs.Soundness.{SoundRegions}
use Rattle.fw_load.specs.declared.faults.LoadFault.{LoadFault}
use Rattle.fw_load.specs.declared.rings.RingPair.{RingPair}
use Rattle.fw_load.specs.Loading.{load_fault}
use Rattle.host_driver.specs.Drivers.{Declared}
use Rattle.lane_model.specs.declared.recoveries.ReclaimRefusal.{ReclaimRefusal}
use Rattle.lane_model.specs.declared.recoveries.ReclaimRefusal.TheVariants as refusal
use Rattle.lane_model.specs.declared.recoveries.ReopenFault.{ReopenFault}
use Rattle.lane_model.specs.declared.recoveries.ReopenFault.TheVariants as reopen
use Rattle.lane_model.specs.declared.states.Holding.{Holding}
use Rattle.lane_model.specs.declared.states.LaneState.{LaneState}
use Rattle.lane_model.specs.Crashes.{least_held, lesser, turn_out}
use Rattle.lane_model.specs.Lanes.{holder}
use Rattle.lane_model.specs.Links.{LinkState}
use Rattle.lane_model.specs.Recoveries.{link_reopen_refusal, link_reclaim_refusal}
use Rattle.lane_model.specs.Soundness.{AreHandedOnce, AreUsers, IsSoundTurn, SoundLink}
use Rattle.channel_bus.specs.Sides.{EndState}
use Rattle.link_bench.specs.BenchEnds.{bench_to_reopen, crashed_bench, reopen_refusal_by, reopen_refusal_of, with_new_host, with_new_host_unless}
use Rattle.link_bench.specs.BenchHolds.{caller_out, is_out}
use Rattle.link_bench.specs.Benches.{BenchState, link_in, new_bench_of, with_new_caller}
use Rattle.core_actors.specs.Actors.{driver_names, fresh_actors}
use Rattle.crash_recover.specs.declared.core_answers.Crash.{Crash}
use Rattle.crash_recover.specs.declared.core_faults.StartFault.{StartFault}
use Rattle.crash_recover.specs.declared.core_faults.StartFault.TheVariants as start_fault
use Rattle.crash_recover.specs.declared.core_answers.Leave.{Leave}
use Rattle.crash_recover.specs.declared.core_answers.Start.{Start}
use Rattle.crash_recover.specs.declared.core_faults.LeaveFault.{LeaveFault}
use Rattle.crash_recover.specs.CoreBoots.{boot_of, config_of, core_bench, fresh_end, handover_of, image_fault, load_in, started_core, with_load}
use Rattle.crash_recover.specs.CoreCrashes.{link_incarnation, report_of}
use Rattle.crash_recover.specs.CoreLeaves.{detach_of, live_inc, shutdown_of}
use Rattle.crash_recover.specs.CoreRecoveries.{core_to_reopen, fault_with, recovery_of, reload_fault, rings_fault}
use Rattle.crash_recover.specs.Cores.{CoreOutcome, CoreState, loaded_rings, new_core}
use Rattle.core_laws.specs.BenchMoves.{IsReachedBench, IsReachedCore}
use Rattle.core_laws.proofs.CallOutcomes.{Attaches, BootOutcome, Empties, GoesDown, HandoverOutcome, HandsOver, IsDown, IsOut, LeaveOutcome, NoBoot, NoHandover, NoImage, NoImageGiven, NoLeave, NoRecovery, NoReload, NoReopening, NoReport, NoStep, NoStepLeft, OneFewer, OneMore, RecoveryOutcome, ReportOutcome, Restarts, Runs, boot_outcome, detach_outcome, handover_outcome, recovery_outcome, report_outcome, shutdown_outcome}
use Rattle.core_laws.proofs.CoreMoves.{found_reopened, map_has, readied, reopens}
use Rattle.core_laws.proofs.Outcomes.{first_none}
use Rattle.crash_recover.proofs.Restarts.{restarts}
use Rattle.crash_recover.proofs.SameLives.{starts_up}
use Rattle.core_laws.proofs.CrashReclaims.{reached_sound}
use Rattle.field_laws.specs.Fields.{AreBytes, IsFieldLink, IsFieldWish}
use Rattle.field_laws.specs.FieldBenches.{IsFieldBench}
use Rattle.field_laws.specs.FieldCores.{AreFieldCalls, IsFieldCore, IsFieldCrash, IsFieldLeave, IsFieldLeaveFault, IsFieldLife, IsFieldLoad, IsFieldPlaced, IsFieldRefused, IsFieldReopen, IsFieldStart, IsFieldStartFault, IsImageName}
use Rattle.field_laws.proofs.Acts.{IsFieldRefusal, refusal_fields}
use Rattle.field_laws.proofs.Benches.{caller_fields, crash_fields, new_fields, ready_fields, reopen_fields}
use Rattle.field_laws.proofs.Lanes.{counts_small}
use Rattle.field_laws.proofs.Loads.{load_fields}
use Rattle.field_laws.proofs.Refusals.{refused_fields}
use Rattle.field_laws.proofs.Rooms.{load_placed}
use Rattle.field_laws.proofs.Sides.{find_has, fresh_fields}
use Rattle.field_laws.proofs.Steps.{holder_small, user_small}

-- ---- lives

-- a life that a call leaves, and what it answers
record HoldsLife {A : Type 0} (P : A → Type 0) (out : Outcome A) : Type 0 where
  pub life : IsFieldLife out.life
  pub answer : IfOk out.answer P

refusal_life : {A : Type 0} (P : A → Type 0) (why : LifeFault) (life : CoreLife) → IsFieldLife life → HoldsLife P (refusal_of why life)
refusal_life P why life is = record { life = is; answer = tt }

first_life : {A : Type 0} (P : A → Type 0) (state : LifeState) (users : ℕ) (told : A) (life : CoreLife) → users ≤ most → P told → IsFieldLife life → HoldsLife P (first_start state users told life)
first_life {A} P state users told life few is fields =
    cond_both (life.incarnation == most) (refusal_of life_fault.IncarnationsSpent life) _ (HoldsLife P) (λ _. refusal_life P life_fault.IncarnationsSpent life fields)
    (λ differ. let other = eqb-false life.incarnation most differ in
    let before = fields.incarnation in
    record { life = record { users = few; incarnation = omega (arith, before, other) }; answer = is })

abbrev IsFieldPower : Power → Type 0
IsFieldPower power.First = Unit {0}
IsFieldPower (power.Counted users) = users < 2 ^ 64

abbrev IsFieldLeft : Left → Type 0
IsFieldLeft (left.Users users) = users < 2 ^ 64
IsFieldLeft left.Last = Unit {0}

abbrev Anything : {A : Type 0} → A → Type 0
Anything it = Unit {0}

user_life : (life : CoreLife) → IsFieldLife life → HoldsLife IsFieldPower (with_user life)
user_life life is =
    cond_both (life.users == most) (refusal_of life_fault.UsersFull life) _ (HoldsLife IsFieldPower) (λ _. refusal_life IsFieldPower life_fault.UsersFull life is)
    (λ differ. let other = eqb-false life.users most differ in
    let before = is.users in
    record { life = record { users = omega (arith, before, other); incarnation = is.incarnation }; answer = omega (arith, before, other) })

boot_to_life : (to : Option LifeState) (life : CoreLife) → IsFieldLife life → HoldsLife IsFieldPower (boot_to to life)
boot_to_life None life is = user_life life is
boot_to_life (Some state) life is = first_life IsFieldPower state 1 power.First life (omega arith) tt is

leave_to_life : (why : LifeFault) (to : Option LifeState) (life : CoreLife) → IsFieldLife life → HoldsLife IsFieldLeft (leave_to why to life)
leave_to_life why None life is = refusal_life IsFieldLeft why life is
leave_to_life why (Some state) life is =
    let few = is.users in
    cond_both (life.users == 1) _ _ (HoldsLife IsFieldLeft) (λ _. record { life = record { users = omega arith; incarnation = is.incarnation }; answer = tt })
    (λ _. record { life = record { users = omega (arith, few); incarnation = is.incarnation }; answer = omega (arith, few) })

handover_life : (to : Option LifeState) (life : CoreLife) → IsFieldLife life → HoldsLife Anything (handover_to to life)
handover_life None life is = refusal_life Anything life_fault.NotOffline life is
handover_life (Some state) life is = record { life = record { users = is.users; incarnation = is.incarnation }; answer = tt }

crash_life : (found : Option Report) (life : CoreLife) → IsFieldLife life → HoldsLife Anything (crash_as found life)
crash_life None life is = refusal_life Anything life_fault.NotPowered life is
crash_life (Some told) life is = record { life = record { users = is.users; incarnation = is.incarnation }; answer = tt }

recovery_life : (to : Result LifeState LifeFault) (life : CoreLife) → IsFieldLife life → HoldsLife Anything (recovery_to to life)
recovery_life (Err why) life is = refusal_life Anything why life is
recovery_life (Ok state) life is = first_life Anything state life.users tt life is.users tt is

pub new_life_fields : IsFieldLife new_life
new_life_fields = record { users = omega arith; incarnation = omega arith }

-- ---- which lives are offline

off_up : (state : LifeState) → is_up state ≡ true → is_offline state ≡ true → ⊥
off_up Offline up off = true≢false (sym up)
off_up Running up off = true≢false (sym off)
off_up Crashed up off = true≢false (sym up)
off_up Attached up off = true≢false (sym off)
off_up Detached up off = true≢false (sym up)

-- a user more leaves a core offline only where it was
user_off : (life : CoreLife) → is_offline (with_user life).life.state ≡ true → is_offline life.state ≡ true
user_off life =
    cond_both (life.users == most) (refusal_of life_fault.UsersFull life) _ (λ (out : Outcome Power). is_offline out.life.state ≡ true → is_offline life.state ≡ true) (λ _ off. off) (λ _ off. off)

first_off : {A : Type 0} (state : LifeState) (users : ℕ) (told : A) (life : CoreLife) → (is_offline state ≡ true → ⊥) → is_offline (first_start state users told life).life.state ≡ true → is_offline life.state ≡ true
first_off {A} state users told life up =
    cond_both (life.incarnation == most) (refusal_of life_fault.IncarnationsSpent life) _ (λ (out : Outcome A). is_offline out.life.state ≡ true → is_offline life.state ≡ true) (λ _ off. off)
    (λ _ off. absurd (up off))

boot_off : (state : LifeState) (life : CoreLife) → is_offline (boot_to (line_of state).boot life).life.state ≡ true → is_offline life.state ≡ true
boot_off Offline life off = first_off Running 1 power.First life (λ is. true≢false (sym is)) off
boot_off Running life off = user_off life off
boot_off Crashed life off = user_off life off
boot_off Attached life off = user_off life off
boot_off Detached life off = first_off Attached 1 power.First life (λ is. true≢false (sym is)) off

-- a handover that is done leaves a core that isn't offline
handed_off : (state : LifeState) (life : CoreLife) (done : Unit {0}) → (handover_to (line_of state).handover life).answer ≡ Ok done → is_offline (handover_to (line_of state).handover life).life.state ≡ true → ⊥
handed_off Offline life done is off = true≢false (sym off)
handed_off Running life done is off = absurd (cc)
handed_off Crashed life done is off = absurd (cc)
handed_off Attached life done is off = absurd (cc)
handed_off Detached life done is off = absurd (cc)

crash_off : (found : Option Report) (life : CoreLife) → is_offline (crash_as found life).life.state ≡ true → is_offline life.state ≡ true
crash_off None life off = off
crash_off (Some told) life off = absurd (true≢false (sym off))

-- a user who leaves others behind leaves a core offline only where it was
users_off : (why : LifeFault) (to : Option LifeState) (life : CoreLife) (users : ℕ) → (leave_to why to life).answer ≡ Ok (left.Users users) → is_offline (leave_to why to life).life.state ≡ true → is_offline life.state ≡ true
users_off why None life users is off = off
users_off why (Some state) life users is off =
    cond_both (life.users == 1) _ _ (λ (out : Outcome Left). out.answer ≡ Ok (left.Users users) → is_offline out.life.state ≡ true → is_offline life.state ≡ true)
    (λ _ last. absurd (cc)) (λ _ more there. there) is off

-- a detach leaves a core offline only where it was
detach_off : (state : LifeState) (life : CoreLife) → is_offline (leave_to life_fault.NotAttached (line_of state).detach life).life.state ≡ true → is_offline life.state ≡ true
detach_off Offline life off = off
detach_off Running life off = off
detach_off Crashed life off = off
detach_off Detached life off = off
detach_off Attached life off =
    cond_both (life.users == 1) _ _ (λ (out : Outcome Left). is_offline out.life.state ≡ true → is_offline life.state ≡ true) (λ _ there. absurd (true≢false (sym there))) (λ _ there. there) off

-- ---- why a link isn't reopened

record IsFieldHolding (h : Holding) : Type 0 where
  pub caller : h.caller < 2 ^ 64
  pub number : h.number < 2 ^ 64

holdings_fields : (callers : List (Option End)) (end : End) (handed : ℕ) (held : List Holding) → length callers ≡ 64 → handed < 2 ^ 64 → AreUsers callers end held → AreHandedOnce handed held → All IsFieldHolding held
holdings_fields callers end handed [] len small users once = All-nil IsFieldHolding
holdings_fields callers end handed (h ∷ hs) len small users once =
    let caller = user_small callers end h.caller len users.0 in
    let number = once.1 in
    All-cons IsFieldHolding h hs (record { caller = omega (arith, caller); number = omega (arith, number, small) }) (holdings_fields callers end handed hs len small users.1 once.2)

lesser_fields : (least : Option Holding) (h : Holding) → IfSome least IsFieldHolding → IsFieldHolding h → IfSome (lesser least h) IsFieldHolding
lesser_fields None h found is = is
lesser_fields (Some one) h found is =
    cond_both (nat_lt h.number one.number) (Some h) (Some one) (λ (found : Option Holding). IfSome found IsFieldHolding) (λ _. is) (λ _. found)

least_from : (least : Option Holding) (held : List Holding) → IfSome least IsFieldHolding → All IsFieldHolding held → IfSome (fold lesser least held) IsFieldHolding
least_from least [] found all = found
least_from least (h ∷ hs) found all = least_from (lesser least h) hs (lesser_fields least h found (All-head IsFieldHolding h hs all)) (All-tail IsFieldHolding h hs all)

abbrev IsSmall : ℕ → Type 0
IsSmall number = number ≤ 64

or_has : {X : Type 0} (P : X → Type 0) (one other : Option X) → IfSome one P → IfSome other P → IfSome (option_or one other) P
or_has P None other is rest = rest
or_has P (Some item) other is rest = is

turn_fields : (found : Option ℕ) → IfSome found IsSmall → IfSome (option_map reopen.StillTurn found) IsFieldReopen
turn_fields None is = tt
turn_fields (Some caller) is = omega (arith, is)

held_fields : (found : Option Holding) → IfSome found IsFieldHolding → IfSome (option_map (λ (h : Holding). reopen.StillHeld h.caller h.number) found) IsFieldReopen
held_fields None is = tt
held_fields (Some h) is = (is.caller, is.number)

lane_turn : (state : LaneState EndState) (callers : List (Option End)) (sends receives : End) → length callers ≡ 64 → IsSoundTurn callers sends state.sender → IsSoundTurn callers receives state.receiver
    → IfSome (turn_out state) IsSmall
lane_turn state callers sends receives len sender receiver =
    or_has IsSmall (holder state.sender) (holder state.receiver) (holder_small callers sends state.sender len sender) (holder_small callers receives state.receiver len receiver)

pub link_refusal_fields : (link : LinkState EndState) → SoundLink link → IsFieldLink link → IfSome (link_reopen_refusal link) IsFieldReopen
link_refusal_fields link sound is =
    let turns = or_has IsSmall (turn_out link.to_host) (turn_out link.to_remote) (lane_turn link.to_host link.callers side.Remote side.Host is.callers sound.to_host.sender sound.to_host.receiver)
    (lane_turn link.to_remote link.callers side.Host side.Remote is.callers sound.to_remote.sender sound.to_remote.receiver) in
    let host = least_from None link.to_host.lane.held tt
    (holdings_fields link.callers side.Host (length link.to_host.lane.takers) link.to_host.lane.held is.callers (counts_small link.to_host sound.to_host.lane is.to_host).takers sound.to_host.users sound.to_host.lane.holdings) in
    let remote = least_from None link.to_remote.lane.held tt
    (holdings_fields link.callers side.Remote (length link.to_remote.lane.takers) link.to_remote.lane.held is.callers (counts_small link.to_remote sound.to_remote.lane is.to_remote).takers sound.to_remote.users sound.to_remote.lane.holdings) in
    let held = or_has IsFieldHolding (least_held link.to_host.lane.held) (least_held link.to_remote.lane.held) host remote in
    or_has IsFieldReopen (cond link.era.is_live (Some (reopen.StillOpen link.era)) None) _
    (cond_both link.era.is_live (Some (reopen.StillOpen link.era)) None (λ (found : Option ReopenFault). IfSome found IsFieldReopen) (λ _. is.inc) (λ _. tt))
    (or_has IsFieldReopen (option_map reopen.StillTurn (option_or (turn_out link.to_host) (turn_out link.to_remote))) _ (turn_fields (option_or (turn_out link.to_host) (turn_out link.to_remote)) turns)
    (or_has IsFieldReopen (option_map (λ (h : Holding). reopen.StillHeld h.caller h.number) (option_or (least_held link.to_host.lane.held) (least_held link.to_remote.lane.held))) _
    (held_fields (option_or (least_held link.to_host.lane.held) (least_held link.to_remote.lane.held)) held)
    (cond_both (link.era.inc == 2 ^ 32 - 1) (Some reopen.IncarnationsSpent) None (λ (found : Option ReopenFault). IfSome found IsFieldReopen) (λ _. tt) (λ _. tt))))

-- ---- outcomes

abbrev pub IsFieldResult : {A E : Type 0} → (A → Type 0) → (E → Type 0) → Result A E → Type 0
IsFieldResult P R (Ok told) = P told
IsFieldResult P R (Err why) = R why

-- what a call leaves of a core, and what it answers
pub record HoldsOut {A E : Type 0} (P : A → Type 0) (R : E → Type 0) (out : CoreOutcome A E) : Type 0 where
  pub core : IsFieldCore out.core
  pub answer : IsFieldResult P R out.answer

load_fault_fields : (found : Option LoadFault) → IfSome found IsFieldRefused → IfSome (option_map start_fault.Load found) IsFieldStartFault
load_fault_fields None is = tt
load_fault_fields (Some why) is = is

image_fields : (core : CoreState) (found : ImageAnswer) → IfOk found AreBytes → IfSome (image_fault core found) IsFieldStartFault
image_fields core (Ok image) are = load_fault_fields (load_fault image core.regions) (refused_fields image core.regions are)
image_fields core (Err why) are = tt

life_fault_fields : (found : Option LifeFault) → IfSome (option_map start_fault.Life found) IsFieldStartFault
life_fault_fields None = tt
life_fault_fields (Some why) = tt

no_calls : (core : CoreState) (entry : ℕ) → AreFieldCalls (fresh_actors core.actors entry)
no_calls core entry = record { host = All-nil IsFieldWish; worker = All-nil IsFieldWish }

-- ---- boots

rings_fields : (names : List (List ℕ)) (book first : ℕ) (rings : RingPair) → book < 2 ^ 64 → first < 2 ^ 32 → IsFieldBench (core_bench names book first rings)
unfolding core_bench
rings_fields names book first rings small few =
    let new = new_bench_of (config_of rings book first) (fresh_end rings.service names) (fresh_end false []) in
    caller_fields (with_new_caller new side.Host (Some 0)) side.Remote (Some 1)
    (caller_fields new side.Host (Some 0)
    (new_fields (config_of rings book first) (fresh_end rings.service names) (fresh_end false []) few small (fresh_fields (fresh_end rings.service names)) (fresh_fields (fresh_end false []))))

pair_fields : (names : List (List ℕ)) (book first : ℕ) (found : Option RingPair) → book < 2 ^ 64 → first < 2 ^ 32 → IfSome (option_map (core_bench names book first) found) IsFieldBench
pair_fields names book first None small few = tt
pair_fields names book first (Some rings) small few = rings_fields names book first rings small few

started_fields : (life : CoreLife) (core : CoreState) → IsFieldLife life → is_up life.state ≡ true → core.book < 2 ^ 64 → IfSome core.image IsImageName → IfSome core.loaded IsFieldLoad → IfSome core.loaded (IsFieldPlaced core.regions)
    → IsFieldCore (started_core life core)
started_fields life core is up small called loaded placed =
    let few = is.incarnation in
    record {
      book = small;
      life = is;
      image = called;
      loaded = loaded;
      placed = placed;
      rest = λ off. absurd (off_up life.state up off);
      bench = pair_fields (driver_names core.actors) core.book life.incarnation (loaded_rings core.loaded) small (omega (arith, few));
      calls = no_calls core _;
    }

-- what is known of a refusal that is there
there : {X : Type 0} (P : X → Type 0) {found : Option X} {why : X} → found ≡ Some why → IfSome found P → P why
there P is holds = subst (λ (found : Option _). IfSome found P) is holds

answered : {A E : Type 0} (P : A → Type 0) {found : Result A E} {told : A} → found ≡ Ok told → IfOk found P → P told
answered P is holds = subst (λ (found : Result _ _). IfOk found P) is holds

module _ (core : CoreState) (name : List ℕ) (found : ImageAnswer) (called : IsImageName name) (are : IfOk found AreBytes) (sound : SoundRegions core.regions) (is : IsFieldCore core) where
  boot_holds : {out : CoreOutcome Start StartFault} → BootOutcome core name found out → HoldsOut IsFieldStart IsFieldStartFault out
  boot_holds (NoBoot why) = record { core = is; answer = tt }
  boot_holds (NoImage why refuses) = record { core = is; answer = there IsFieldStartFault refuses (image_fields core found are) }
  boot_holds (OneMore users answer) =
      let after = boot_to_life (line_of core.life.state).boot core.life is.life in
      record {
        core = record { book = is.book; life = after.life; image = is.image; loaded = is.loaded; placed = is.placed; rest = λ off. is.rest (boot_off core.life.state core.life off); bench = is.bench; calls = is.calls };
        answer = answered IsFieldPower answer after.answer;
      }
  boot_holds (Runs first off clear) =
      let after = (boot_to_life (line_of core.life.state).boot core.life is.life).life in
      let few = after.incarnation in
      record {
        core = started_fields (life_after_boot core.life).life (with_load core name (load_in core found)) after (starts_up core.life first) is.book called (load_fields core found are) (load_placed core found sound clear);
        answer = omega (arith, few);
      }
  boot_holds (Attaches first on) =
      let after = (boot_to_life (line_of core.life.state).boot core.life is.life).life in
      let few = after.incarnation in
      record { core = started_fields (life_after_boot core.life).life core after (starts_up core.life first) is.book is.image is.loaded is.placed; answer = omega (arith, few) }

  pub boot_fields : HoldsOut IsFieldStart IsFieldStartFault (boot_of core name found)
  boot_fields = boot_holds (boot_outcome core name found)

  handover_holds : {out : CoreOutcome Start StartFault} → HandoverOutcome core name found out → HoldsOut IsFieldStart IsFieldStartFault out
  handover_holds (NoHandover why) = record { core = is; answer = tt }
  handover_holds (NoImageGiven why refuses) = record { core = is; answer = there IsFieldStartFault refuses (image_fields core found are) }
  handover_holds (HandsOver done answer clear) = record {
    core = record {
      book = is.book;
      life = (handover_life (line_of core.life.state).handover core.life is.life).life;
      image = called;
      loaded = load_fields core found are;
      placed = load_placed core found sound clear;
      rest = λ off. absurd (handed_off core.life.state core.life done answer off);
      bench = is.bench;
      calls = is.calls;
    };
    answer = tt;
  }

  pub handover_fields : HoldsOut IsFieldStart IsFieldStartFault (handover_of core name found)
  handover_fields = handover_holds (handover_outcome core name found)

-- ---- recoveries

refused_reopen : (bench : BenchState) (why : Option ReclaimRefusal) → link_reclaim_refusal (link_in bench) 0 ≡ why → IfSome why IsFieldRefusal → IsReachedBench (bench_to_reopen bench) → IsFieldBench (bench_to_reopen bench)
    → IfSome (reopen_refusal_by bench why) IsFieldReopen
refused_reopen bench None is fields reached ready =
    let came = subst (λ (w : Option ReclaimRefusal). IsReachedBench (with_new_host_unless bench w)) is reached in
    let now = subst (λ (w : Option ReclaimRefusal). IsFieldBench (with_new_host_unless bench w)) is ready in
    link_refusal_fields (link_in (with_new_host bench)) (reached_sound (link_in (with_new_host bench)) came.link) now.link
refused_reopen bench (Some (refusal.StillOpen era)) is fields reached ready = fields
refused_reopen bench (Some (refusal.Busy held)) is fields reached ready = fields

reopen_refusal_fields : (bench : BenchState) → IsReachedBench bench → IsFieldBench bench → IfSome (reopen_refusal_of bench) IsFieldReopen
reopen_refusal_fields bench reached is =
    refused_reopen bench (link_reclaim_refusal (link_in bench) 0) refl (refusal_fields (link_in bench) 0 (reached_sound (link_in bench) reached.link) is.link) (readied bench reached) (ready_fields bench is)

reopen_map : (found : Option ReopenFault) → IfSome found IsFieldReopen → IfSome (option_map start_fault.Reopen found) IsFieldStartFault
reopen_map None is = tt
reopen_map (Some why) is = is

with_fields : (found : Option BenchState) (why : Option LifeFault) → IfSome found IsReachedBench → IfSome found IsFieldBench → IfSome (fault_with found why) IsFieldStartFault
with_fields None why reached is = life_fault_fields why
with_fields (Some bench) why reached is =
    or_has IsFieldStartFault (option_map start_fault.Reopen (reopen_refusal_of bench)) (option_map start_fault.Life why) (reopen_map (reopen_refusal_of bench) (reopen_refusal_fields bench reached is)) (life_fault_fields why)

reload_fields : (core : CoreState) (found : ImageAnswer) → IfOk found AreBytes → IfSome (reload_fault core found) IsFieldStartFault
reload_fields core found are =
    or_has IsFieldStartFault (image_fault core found) (rings_fault core (load_in core found)) (image_fields core found are)
    (cond_both _ None (Some start_fault.RingsChanged) (λ (why : Option StartFault). IfSome why IsFieldStartFault) (λ _. tt) (λ _. tt))

readied_fields : (core : CoreState) → IsFieldCore core → IsFieldCore (core_to_reopen core)
readied_fields core is = record { book = is.book; life = is.life; image = is.image; loaded = is.loaded; placed = is.placed; rest = is.rest; bench = map_has IsFieldBench core.bench bench_to_reopen ready_fields is.bench; calls = is.calls }

module _ (core : CoreState) (found : ImageAnswer) (are : IfOk found AreBytes) (sound : SoundRegions core.regions) (reached : IsReachedCore core) (is : IsFieldCore core) where
  recovery_holds : {out : CoreOutcome Start StartFault} → RecoveryOutcome core found out → HoldsOut IsFieldStart IsFieldStartFault out
  recovery_holds (NoRecovery why refuses) = record { core = is; answer = tt }
  recovery_holds (NoReload why may refuses) = record { core = is; answer = there IsFieldStartFault refuses (reload_fields core found are) }
  recovery_holds (NoReopening why may loads refuses) =
      record { core = readied_fields core is; answer = there IsFieldStartFault refuses (with_fields core.bench (result_err (life_after_recovery core.life).answer) reached.bench is.bench) }
  recovery_holds (Restarts may loads opens) =
      let after = (recovery_life (recovery_state core.life) core.life is.life).life in
      let few = after.incarnation in
      record {
        core = record {
          book = is.book;
          life = after;
          image = is.image;
          loaded = load_fields core found are;
          placed = load_placed core found sound (first_none (image_fault core found) (rings_fault core (load_in core found)) loads);
          rest = λ off. absurd (true≢false (sym off ∙ ap (λ (life : CoreLife). is_offline life.state) (restarts core opens)));
          bench = found_reopened IsFieldBench core.bench (λ bench clear here. reopen_fields (bench_to_reopen bench) clear (ready_fields bench here))
              (reopens core.bench (result_err (life_after_recovery core.life).answer) opens) is.bench;
          calls = no_calls core _;
        };
        answer = omega (arith, few);
      }

  pub recovery_fields : HoldsOut IsFieldStart IsFieldStartFault (recovery_of core found)
  recovery_fields = recovery_holds (recovery_outcome core found)

-- ---- leaves

abbrev IsNumber : ℕ → Type 0
IsNumber number = number < 2 ^ 64

range_numbers : (from count : ℕ) → from + count ≤ 2 ^ 64 → All IsNumber (range_with_len from count)
range_numbers from zero fits = All-nil IsNumber
range_numbers from (suc count) fits = All-cons IsNumber from (range_with_len (from + 1) count) (omega (arith, fits)) (range_numbers (from + 1) count (omega (arith, fits)))

out_small : (bench : BenchState) → IfSome (caller_out bench) IsNumber
unfolding caller_out
out_small bench = find_has IsNumber (λ caller. is_out bench caller) (range_with_len 1 63) (range_numbers 1 63 (omega arith))

out_at : (found : Option BenchState) → IfSome (option_and_then caller_out found) IsNumber
out_at None = tt
out_at (Some bench) = out_small bench

live_small : (found : Option BenchState) → IfSome found IsFieldBench → IfSome (live_inc found) IsNumber
live_small None is = tt
live_small (Some bench) is =
    let inc = is.link.inc in
    cond_both (link_in bench).era.is_live (Some (link_in bench).era.inc) None (λ (found : Option ℕ). IfSome found IsNumber) (λ _. omega (arith, inc)) (λ _. tt)

module _ (may_step : Bool) (core : CoreState) (is : IsFieldCore core) where
  leave_holds : (why : LifeFault) (to : Option LifeState) (gone : CoreState) {out : CoreOutcome Leave LeaveFault} → LeaveOutcome may_step core gone (leave_to why to core.life) out → IsFieldCore gone → HoldsOut IsFieldLeave IsFieldLeaveFault out
  leave_holds why to gone (NoLeave fault) last = record { core = is; answer = tt }
  leave_holds why to gone (OneFewer users answer) last =
      let after = leave_to_life why to core.life is.life in
      record {
        core = record { book = is.book; life = after.life; image = is.image; loaded = is.loaded; placed = is.placed; rest = λ off. is.rest (users_off why to core.life users answer off); bench = is.bench; calls = is.calls };
        answer = answered IsFieldLeft answer after.answer;
      }
  leave_holds why to gone (IsOut caller out) last = record { core = is; answer = there IsNumber out (out_at core.bench) }
  leave_holds why to gone (NoStep none) last = record { core = is; answer = tt }
  leave_holds why to gone (Empties all live was) last = record { core = last; answer = subst (λ (closed : Option ℕ). IfSome closed IsNumber) was (live_small core.bench is.bench) }

  pub shutdown_fields : HoldsOut IsFieldLeave IsFieldLeaveFault (shutdown_of may_step core)
  shutdown_fields =
      leave_holds life_fault.NotPowered (line_of core.life.state).shutdown _ (shutdown_outcome may_step core)
      (record { book = is.book; life = (leave_to_life life_fault.NotPowered (line_of core.life.state).shutdown core.life is.life).life; image = tt; loaded = tt; placed = tt; rest = λ _. refl; bench = tt; calls = is.calls })

  pub detach_fields : HoldsOut IsFieldLeave IsFieldLeaveFault (detach_of may_step core)
  detach_fields =
      leave_holds life_fault.NotAttached (line_of core.life.state).detach _ (detach_outcome may_step core) (record {
        book = is.book;
        life = (leave_to_life life_fault.NotAttached (line_of core.life.state).detach core.life is.life).life;
        image = is.image;
        loaded = is.loaded;
        placed = is.placed;
        rest = λ off. is.rest (detach_off core.life.state core.life off);
        bench = tt;
        calls = is.calls;
      })

-- ---- crashes

-- the incarnation of a link is a number of a line
pub closed_field : (link : Option BenchState) → IfSome link IsFieldBench → IfSome (link_incarnation link) (λ inc. inc < 2 ^ 64)
closed_field None here = tt
closed_field (Some bench) here = let inc = here.link.inc in omega (arith, inc)

-- what a crash report leaves of a core, and what it answers
pub record HoldsReport (out : CoreOutcome Crash LifeFault) : Type 0 where
  pub core : IsFieldCore out.core
  pub answer : IfOk out.answer IsFieldCrash

module _ (may_step : Bool) (core : CoreState) (is : IsFieldCore core) where
  report_holds : {out : CoreOutcome Crash LifeFault} → ReportOutcome may_step core out → HoldsReport out
  report_holds (NoReport why) = record { core = is; answer = tt }
  report_holds IsDown = record { core = is; answer = tt }
  report_holds (NoStepLeft none) = record { core = is; answer = tt }
  report_holds (GoesDown first closed was) = record {
    core = record {
      book = is.book;
      life = (crash_life (line_of core.life.state).crash core.life is.life).life;
      image = is.image;
      loaded = is.loaded;
      placed = is.placed;
      rest = λ off. is.rest (crash_off (line_of core.life.state).crash core.life off);
      bench = map_has IsFieldBench core.bench crashed_bench crash_fields is.bench;
      calls = is.calls;
    };
    answer = subst (λ (inc : Option ℕ). IfSome inc IsNumber) was (closed_field core.bench is.bench);
  }

  pub report_fields : HoldsReport (report_of may_step core)
  report_fields = report_holds (report_outcome may_step core)

-- ---- a core that was never booted

pub new_core_fields : (regions : List Region) (kinds : List Declared) (book : ℕ) → book < 2 ^ 64 → IsFieldCore (new_core regions kinds book)
new_core_fields regions kinds book small =
    record { book = small; life = new_life_fields; image = tt; loaded = tt; placed = tt; rest = λ _. refl; bench = tt; calls = record { host = All-nil IsFieldWish; worker = All-nil IsFieldWish } }
