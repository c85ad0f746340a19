use Rattle.rpki_resources.proofs.ResourcesWritingLaws.{as-back}
use Rattle.rpki_resources.proofs.ResourcesApartLaws.{as-apart}
use Rattle.rpki_resources.proofs.WritableLaws.{as-writable}
use Rattle.rpki_resources.proofs.ResourcesOnlyLaws.{as-only}
use Rattle.rpki_resources.proofs.resources.AsResources.encode_ref.Goals as goal

pub returns-in-Some-clause-read_back : goal.returns-in-Some-clause-read_back
returns-in-Some-clause-read_back c can short = as-back c.args.self.now can short

pub returns-in-Some-clause-same : goal.returns-in-Some-clause-same
returns-in-Some-clause-same c = as-apart c.args.self.now

pub returns-then-not-are_of_kind-clause-same : goal.returns-then-not-are_of_kind-clause-same
returns-then-not-are_of_kind-clause-same c = as-apart c.args.self.now

pub returns-in-None-clause-same : goal.returns-in-None-clause-same
returns-in-None-clause-same c = as-apart c.args.self.now

pub returns-then-not-are_of_kind-clause-written : goal.returns-then-not-are_of_kind-clause-written
returns-then-not-are_of_kind-clause-written c = as-writable c.args.self.now

pub returns-in-None-clause-written : goal.returns-in-None-clause-written
returns-in-None-clause-written c = as-writable c.args.self.now

pub returns-in-Some-clause-written : goal.returns-in-Some-clause-written
returns-in-Some-clause-written c = as-writable c.args.self.now

pub returns-then-not-are_of_kind-clause-only : goal.returns-then-not-are_of_kind-clause-only
returns-then-not-are_of_kind-clause-only c = as-only c.args.self.now

pub returns-in-None-clause-only : goal.returns-in-None-clause-only
returns-in-None-clause-only c = as-only c.args.self.now

pub returns-in-Some-clause-only : goal.returns-in-Some-clause-only
returns-in-Some-clause-only c = as-only c.args.self.now
