use Rattle.endpoint_map.proofs.Places.{dynamic_from_found, dynamic_from_absent}
use Rattle.endpoint_map.proofs.endpoints.Endpoints.first_dynamic.Goals as goal

pub returns-in-Ok : goal.returns-in-Ok
returns-in-Ok c = dynamic_from_found c.args.self.now.bound c.in-Ok.place c.search.ensures.ascending c.in-Ok.ensures.found.0 c.in-Ok.ensures.found.1

pub returns-in-Err : goal.returns-in-Err
returns-in-Err c = dynamic_from_absent c.args.self.now.bound c.in-Err.place c.in-Err.ensures.absent
