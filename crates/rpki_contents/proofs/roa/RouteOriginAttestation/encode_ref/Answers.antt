use Rattle.rpki_contents.proofs.AspaWritingLaws.{contents-few}
use Rattle.rpki_contents.proofs.RoaWritingLaws.{roa-short, roa-back}
use Rattle.rpki_contents.proofs.roa.RouteOriginAttestation.encode_ref.Goals as goal

pub returns-clause-short : goal.returns-clause-short
returns-clause-short c =
    let id = c.encode.ensures.short.1 (contents-few c.as_id.result) in
    rw (c.new.ensures, c.encode.ensures.encoded, c.encode_families.ensures.octets, c.as_id.ensures.number)
    (roa-short c.args.self.now id c.encode_families.ensures.short)

pub returns-clause-read_back : goal.returns-clause-read_back
returns-clause-read_back c = λ strict few.
    roa-back strict c.args.self.now c.as_id.ensures.legal c.as_id.ensures.bound few
