use Rattle.std.proofs.Common.{◌∙◌, ◌++◌, true, List, sym, ap}
use Rattle.rpki_der.specs.TagName.{sequence}
use Rattle.rpki_der.specs.Header.{tlv}
use Rattle.rpki_contents.specs.ListedFile.{ListedFile}
use Rattle.rpki_contents.specs.Encoded.{front_octets, listing_octets}
use Rattle.rpki_contents.proofs.ManifestWritingLaws.{short-of, manifest-back}
use Rattle.rpki_contents.proofs.manifest.ManifestContent.encode.Goals as goal

pub returns-in-Some-clause-octets : goal.returns-in-Some-clause-octets
returns-in-Some-clause-octets c =
    let x = c.args.self.now in
    rw (c.new-in-Some.ensures, c.encode_front.ensures.octets, c.encode_listing.ensures.octets)
    (ap (λ (f : List ListedFile).
    tlv sequence true (front_octets x.number x.this_update x.next_update ++ listing_octets f))
    (c.in-Some.ensures.value ∙ c.file_list.ensures.files))

pub returns-in-Some-clause-short : goal.returns-in-Some-clause-short
returns-in-Some-clause-short c =
    let files = sym (c.in-Some.ensures.value ∙ c.file_list.ensures.files) in
    rw (c.new-in-Some.ensures, c.encode_front.ensures.octets, c.encode_listing.ensures.octets)
    (short-of c.args.self.now c.in-Some.files files c.encode_front.ensures.short c.encode_listing.ensures.short)

pub returns-in-Some-clause-read_back : goal.returns-in-Some-clause-read_back
returns-in-Some-clause-read_back c = λ can short.
    let x = c.args.self.now in
    manifest-back x
    (record {
      number = c.encode_front.ensures.number;
      this_year = c.encode_front.ensures.this_year;
      next_year = c.encode_front.ensures.next_year;
      algorithm = c.encode_listing.ensures.algorithm;
      named = rw c.file_list.ensures.files at c.in-Some.ensures.named;
      distinct = c.file_list.ensures.distinct;
    })
    can short
