use Rattle.rpki_fields.proofs.object.other_cert_sheet.Goals as goal

pub returns : goal.returns
returns c = (c.in_ok-fields.fields.items, c.in_ok-fields.ensures, c.plain.ensures)
