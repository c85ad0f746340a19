use Rattle.rpkivalid.proofs.walked.walk_of.Goals as goal

pub returns-in-Ok : goal.returns-in-Ok
returns-in-Ok g c = rw (c.as_str.ensures.value, c.as_slice-uris.ensures.value) at c.in-Ok.ensures

pub returns-in-Err-Rejected : goal.returns-in-Err-Rejected
returns-in-Err-Rejected g c = λ published k.
    let h = rw c.in-Err-Rejected.field-0-is at c.in-Err-Rejected.ensures in
    (rw (c.as_str.ensures.value, c.as_slice-uris.ensures.value) at h) published k
