use Rattle.rpki_resources.proofs.ResourcesWritingLaws.{ip-short, ip-back}
use Rattle.rpki_resources.proofs.ResourcesApartLaws.{ip-apart}
use Rattle.rpki_resources.proofs.WritableLaws.{ip-writable}
use Rattle.rpki_resources.proofs.ResourcesOnlyLaws.{ip-only}
use Rattle.rpki_resources.proofs.resources.IpResources.encode_ref.Goals as goal

pub returns-clause-short : goal.returns-clause-short
returns-clause-short c =
    let one = c.encode_named-v4.ensures in
    let two = c.encode_named-v6.ensures in
    rw (c.new.ensures, one.octets, two.octets) (ip-short c.args.self.now one.short two.short)

pub returns-clause-read_back : goal.returns-clause-read_back
returns-clause-read_back c can short = ip-back c.args.self.now can short

pub returns-clause-same : goal.returns-clause-same
returns-clause-same c = ip-apart c.args.self.now

pub returns-then-not-are_of_kind-clause-same : goal.returns-then-not-are_of_kind-clause-same
returns-then-not-are_of_kind-clause-same c = ip-apart c.args.self.now

pub returns-then-not-are_of_kind-2-clause-same : goal.returns-then-not-are_of_kind-2-clause-same
returns-then-not-are_of_kind-2-clause-same c = ip-apart c.args.self.now

pub returns-then-is_none-2-clause-same : goal.returns-then-is_none-2-clause-same
returns-then-is_none-2-clause-same c = ip-apart c.args.self.now

pub returns-then-not-are_of_kind-clause-written : goal.returns-then-not-are_of_kind-clause-written
returns-then-not-are_of_kind-clause-written c = ip-writable c.args.self.now

pub returns-then-not-are_of_kind-2-clause-written : goal.returns-then-not-are_of_kind-2-clause-written
returns-then-not-are_of_kind-2-clause-written c = ip-writable c.args.self.now

pub returns-then-is_none-2-clause-written : goal.returns-then-is_none-2-clause-written
returns-then-is_none-2-clause-written c = ip-writable c.args.self.now

pub returns-clause-written : goal.returns-clause-written
returns-clause-written c = ip-writable c.args.self.now

pub returns-then-not-are_of_kind-clause-only : goal.returns-then-not-are_of_kind-clause-only
returns-then-not-are_of_kind-clause-only c = ip-only c.args.self.now

pub returns-then-not-are_of_kind-2-clause-only : goal.returns-then-not-are_of_kind-2-clause-only
returns-then-not-are_of_kind-2-clause-only c = ip-only c.args.self.now

pub returns-then-is_none-2-clause-only : goal.returns-then-is_none-2-clause-only
returns-then-is_none-2-clause-only c = ip-only c.args.self.now

pub returns-clause-only : goal.returns-clause-only
returns-clause-only c = ip-only c.args.self.now
