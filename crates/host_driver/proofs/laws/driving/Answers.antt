use Rattle.host_driver.proofs.Changes.{created_changes, not_driven_stays, delivered_changes, destroyed_changes}
use Rattle.host_driver.proofs.laws.driving.Goals as goal

pub returns-clause-created : goal.returns-clause-created
returns-clause-created c = λ drivers name endpoint channel kind e. created_changes drivers name endpoint channel kind e

pub returns-clause-not_driven : goal.returns-clause-not_driven
returns-clause-not_driven c = λ drivers name endpoint channel e. not_driven_stays drivers name endpoint channel e

pub returns-clause-delivered : goal.returns-clause-delivered
returns-clause-delivered c = λ drivers endpoint. delivered_changes drivers.driven endpoint

pub returns-clause-destroyed : goal.returns-clause-destroyed
returns-clause-destroyed c = λ drivers endpoint. destroyed_changes drivers.driven endpoint
