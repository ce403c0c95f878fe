-- The books of a storm, and how many entries each caller has in them (own).
use Rattle.std.specs.Prelude.{◌≡◌, ◌+◌, ◌*◌, ◌<◌, ◌≤◌, ◌==◌, ℕ, List, All, count_by, length}
use Rattle.lane_model.specs.declared.recoveries.Books.{Books}
use Rattle.lane_model.specs.declared.states.BookEntry.{BookEntry}
use Rattle.rp_base.specs.declared.limits.TheConstants.{CALLERS_MOST}
use Rattle.storm_run.specs.declared.plans.Plan.{Plan}

-- how many entries of a book are of this caller
abbrev pub entry_count : ℕ → List BookEntry → ℕ
entry_count caller entries = count_by (λ entry. entry.caller == caller) entries

-- what was accepted on a lane and how much was handed over, where so many callers sent on it, from this number on, each as many messages
pub record IsStormLane (first callers count : ℕ) (entries : List BookEntry) (handed : ℕ) : Type 0 where
  pub accepted : length entries ≡ callers * count
  pub all_handed : handed ≡ callers * count
  pub each : (caller : ℕ) → first ≤ caller → caller < first + callers → entry_count caller entries ≡ count
  pub low : All (λ entry. entry.caller < CALLERS_MOST) entries

-- the books of a storm: what the remote's callers sent to the host, and the host's to the remote
pub record AreStormBooks (plan : Plan) (books : Books) : Type 0 where
  pub to_host : IsStormLane plan.hosts plan.remotes plan.count books.to_host.entries books.to_host_handed
  pub to_remote : IsStormLane 0 plan.hosts plan.count books.to_remote.entries books.to_remote_handed
