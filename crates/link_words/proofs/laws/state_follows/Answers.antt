use Rattle.link_words.specs.Deeds.{Closes, Enlists, Frees, Opens}
use Rattle.link_words.proofs.Placed.{state_after}
use Rattle.link_words.proofs.laws.state_follows.Goals as goal

pub returns : goal.returns
returns g c = record {
  found = λ place n d number call next me me' step known knows. λ same. state_after g.row.D.coded g.D.Desk.meaning d me.0 me'.0 step.state known knows same (λ k was. step.copy k knows.manages knows.carries was);
  stored = λ place n d number call next me me' step known knows. λ same. state_after g.row.D.coded g.D.Desk.meaning d me.0 me'.0 step.state known knows same (λ k was. step.copy k knows.manages knows.carries was);
  closed = λ inc n me me' step known knows. λ same. state_after g.row.D.coded g.D.Desk.meaning (Closes inc) me.0 me'.0 step.state known knows same (λ k was. step.copy k knows.manages knows.carries was);
  made = λ e me me' step known knows. λ same. state_after g.row.D.coded g.D.Desk.meaning (Enlists e) me.0 me'.0 step.state known knows same (λ k was. step.copy k knows.carries was);
  ended = λ number me me' step known knows. λ same. state_after g.row.D.coded g.D.Desk.meaning (Frees step.0 number) me.0 me'.0 step.1.state known knows same (λ k was. step.1.copy k knows.carries was);
  opened = λ me me' step known knows. λ same. state_after g.row.D.coded g.D.Desk.meaning Opens me.0 me'.0 step.state known knows same (λ k was. step.copy k knows.carries was);
}
