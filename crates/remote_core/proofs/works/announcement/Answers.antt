use Rattle.std.proofs.Common.{◌≡◌, ℕ, ◌∙◌, List, ◌++◌, length, drop, replicate, ap}
use Rattle.std.proofs.lemmas.List.{append_assoc}
use Rattle.rp_base.specs.Fields.{with_number}
use Rattle.remote_core.specs.Works.{announcement}
use Rattle.remote_core.proofs.works.announcement.Goals as goal

-- the address and the flags were written into zeros, and then a name of 31 bytes in front of them
in_front : (name : List ℕ) (address flags : ℕ) → length name ≡ 31 → name ++ drop (length name) (with_number 4 36 flags (with_number 4 32 address (replicate 40 0))) ≡ announcement name address flags
in_front name address flags whole =
    ap (λ len. name ++ drop len (with_number 4 36 flags (with_number 4 32 address (replicate 40 0)))) whole
    ∙ simp append_assoc

pub returns : goal.returns
returns c =
    let name = c.args.name.now in
    let front = in_front name c.args.address c.args.flags c.requires in
    cc
