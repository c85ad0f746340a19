use Rattle.rpki_der.proofs.FormatLaws.{tried, failed, given, first, last, after, all, and}
use Rattle.rpki_der.proofs.KeepLaws.{held-after}
use Rattle.rpki_contents.specs.Manifest.{fields, fields_in}
use Rattle.rpki_contents.proofs.manifest_fields.fn.ManifestFields.take_from.in_sequence_with.Goals as goal

pub returns-in-Err : goal.returns-in-Err
returns-in-Err g c = failed (first c.in-Err.ensures)

pub returns-in-Err-take_generalized_from : goal.returns-in-Err-take_generalized_from
returns-in-Err-take_generalized_from g c = failed (after c.in-Ok.ensures (first c.in-Err-take_generalized_from.ensures))

pub returns-in-Err-take_generalized_from-2 : goal.returns-in-Err-take_generalized_from-2
returns-in-Err-take_generalized_from-2 g c =
    failed (after c.in-Ok.ensures (after c.in-Ok-take_generalized_from.ensures
    (first c.in-Err-take_generalized_from-2.ensures)))

pub returns-in-Err-take_oid_from : goal.returns-in-Err-take_oid_from
returns-in-Err-take_oid_from g c =
    failed (after c.in-Ok.ensures (after c.in-Ok-take_generalized_from.ensures
    (after c.in-Ok-take_generalized_from-2.ensures (first c.in-Err-take_oid_from.ensures))))

pub take_file_list-requires : goal.take_file_list-requires
take_file_list-requires g c =
    let holds = g.K.Keep.holds in
    let law = g.met.K.Keep.rest_held in
    let keep = c.args.keep in
    let number = held-after holds law keep c.in-Ok.ensures c.requires in
    let this = held-after holds law keep c.in-Ok-take_generalized_from.ensures number in
    let next = held-after holds law keep c.in-Ok-take_generalized_from-2.ensures this in
    held-after holds law keep c.in-Ok-take_oid_from.ensures next

pub returns-in_err-file_list : goal.returns-in_err-file_list
returns-in_err-file_list g c =
    tried fields_in fields _ _ c.from_residual.ensures
    (after c.in-Ok.ensures (after c.in-Ok-take_generalized_from.ensures (after c.in-Ok-take_generalized_from-2.ensures
    (after c.in-Ok-take_oid_from.ensures (last c.in_err-file_list.ensures)))))

pub returns : goal.returns
returns g c =
    given (and c.in-Ok.ensures (and c.in-Ok-take_generalized_from.ensures (and c.in-Ok-take_generalized_from-2.ensures
    (and c.in-Ok-take_oid_from.ensures (all c.in_ok-file_list.ensures)))))
