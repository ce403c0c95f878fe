-- What a storm is made of, and what it reports (own).
use Rattle.std.specs.Prelude.{◌*◌, ◌≤◌, ℕ, List, [], ◌∷◌, ◌++◌, codes}
use Rattle.std.specs.List.{flat_map, range_with_len}
use Rattle.rp_base.specs.declared.kinds.End.{End}
use Rattle.rp_base.specs.declared.kinds.End.TheVariants as side
use Rattle.rp_base.specs.Limits.{IsRingSize}
use Rattle.word_kinds.specs.Lines.{line_of}
use Rattle.word_kinds.specs.Texts.{Fixed, Lane, Number, Side}
use Rattle.storm_run.specs.declared.plans.Plan.{Plan}
use Rattle.storm_run.specs.declared.plans.TheConstants.{END_CALLERS_MOST, COUNT_MOST}

-- a storm that can be run: each end has a caller and each caller a message, none has more than it may, and a ring may have so many entries
pub record IsPlan (plan : Plan) : Type 0 where
  pub hosts : (1 ≤ plan.hosts) × (plan.hosts ≤ END_CALLERS_MOST)
  pub remotes : (1 ≤ plan.remotes) × (plan.remotes ≤ END_CALLERS_MOST)
  pub count : (1 ≤ plan.count) × (plan.count ≤ COUNT_MOST)
  pub num : IsRingSize plan.num

-- the line of a lane: how many messages were accepted and handed over, and how many buffers are back
abbrev pub lane_line : ℕ → ℕ → ℕ → ℕ → List ℕ
lane_line lane accepted handed returned =
    line_of (Fixed (codes "lane") ∷ Lane lane ∷ Fixed (codes "accepted") ∷ Number accepted ∷ Fixed (codes "handed") ∷ Number handed ∷ Fixed (codes "returned") ∷ Number returned ∷ [])

-- the line of a caller: its number, its end, and how many messages it sent
abbrev pub caller_line : ℕ → End → ℕ → List ℕ
caller_line number end sent = line_of (Fixed (codes "caller") ∷ Number number ∷ Side end ∷ Fixed (codes "sent") ∷ Number sent ∷ [])

-- the lines of so many callers of an end, from this number on, by how many messages each sent
abbrev pub caller_lines : ℕ → ℕ → End → (ℕ → ℕ) → List ℕ
caller_lines first callers end sent = flat_map (λ number. caller_line number end (sent number)) (range_with_len first callers)

-- the report of a storm: lane 0 leads to the host and lane 1 to the remote, and all that the callers of the other end sent was accepted, was handed over
-- and is back; the callers of the host's end come first, and each sent as many messages
unfoldable pub storm_text : Plan → List ℕ
storm_text plan =
    let to_host = plan.remotes * plan.count in
    let to_remote = plan.hosts * plan.count in
    lane_line 0 to_host to_host to_host ++ lane_line 1 to_remote to_remote to_remote
    ++ caller_lines 0 plan.hosts side.Host (λ number. plan.count) ++ caller_lines plan.hosts plan.remotes side.Remote (λ number. plan.count)
