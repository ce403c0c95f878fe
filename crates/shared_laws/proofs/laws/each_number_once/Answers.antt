use Rattle.std.proofs.Common.{ℕ, List, subst, sym}
use Rattle.std.specs.List.{Contains}
use Rattle.link_words.specs.Histories.{books_of}
use Rattle.link_words.specs.Words.{lane_to}
use Rattle.shared_laws.specs.Taken.{Ascends}
use Rattle.shared_laws.proofs.Takers.{one_taker, taken_ascend}
use Rattle.shared_laws.proofs.laws.each_number_once.Goals as goal

pub returns-clause-sent : goal.returns-clause-sent
returns-clause-sent g c = λ z s m p shows j l q there since e. (shows.histories.own j l q there).sent e since

pub returns-clause-ascending : goal.returns-clause-ascending
returns-clause-ascending g c = λ z s m p shows j l q there since e.
    subst Ascends ((shows.histories.own j l q there).taken e since) (taken_ascend q.number 0 (books_of (lane_to m e)).takers)

pub returns-clause-one_taker : goal.returns-clause-one_taker
returns-clause-one_taker g c = λ z s m p shows i k j l q r here there since later e number one other.
    let holds : ℕ → List ℕ → Type 0 = λ n ns. Contains ns n in
    shows.numbers.places i k j l q r here there
    (one_taker q.number r.number (books_of (lane_to m e)).takers number
    (subst (holds number) (sym ((shows.histories.own i k q here).taken e since)) one)
    (subst (holds number) (sym ((shows.histories.own j l r there).taken e later)) other))

pub returns-clause-read : goal.returns-clause-read
returns-clause-read g c = λ z s m p shows j l q there e. (shows.histories.own j l q there).read e
