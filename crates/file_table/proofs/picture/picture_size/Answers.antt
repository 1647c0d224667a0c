use Rattle.std.proofs.Common.{◌≡◌, ℕ, sym, ◌∙◌, subst}
use Rattle.scene_json.specs.TheOne.{IsTheOne}
use Rattle.file_table.specs.Picture.{IsDataUrl, HasUrl, IsPictureSize}
use Rattle.file_table.proofs.Pictures.{IfOk-weaker, HasSize, size-only, size-none}
use Rattle.file_table.proofs.picture.picture_size.Goals as goal

pub returns-in_default-clause-no_data_url : goal.returns-in_default-clause-no_data_url
returns-in_default-clause-no_data_url c = λ _ content h.
    subst (IsTheOne (HasUrl c.args.entry.now)) c.in_default.is c.in_ok-url.ensures h.url h.has_url

pub returns-in_default-content_of-clause-no_data_url : goal.returns-in_default-content_of-clause-no_data_url
returns-in_default-content_of-clause-no_data_url c = λ _ content h.
    let one = subst (IsTheOne (HasUrl c.args.entry.now)) c.in-Some.is c.in_ok-url.ensures in
    c.in_default-content_of.ensures content
    (subst (λ u. IsDataUrl u content) (one.1 h.url h.has_url ∙ sym c.as_bytes.ensures.value) h.is_data_url)

pub returns-clause-only : goal.returns-clause-only
returns-clause-only c =
    let entry = c.args.entry.now in
    let content = c.in-Some-content_of.content.now in
    let one = subst (IsTheOne (HasUrl entry)) c.in-Some.is c.in_ok-url.ensures in
    let is = subst (λ u. IsDataUrl u content) c.as_bytes.ensures.value c.in-Some-content_of.ensures in
    IfOk-weaker c.decoded_size.result (HasSize content) (λ size. (other : ℕ) → IsPictureSize entry other → other ≡ size)
    (λ size h. size-only entry c.in-Some.url content one.1 is size h) c.decoded_size.ensures.size

pub returns-clause-base64 : goal.returns-clause-base64
returns-clause-base64 c = λ fault.
    let entry = c.args.entry.now in
    let content = c.in-Some-content_of.content.now in
    let one = subst (IsTheOne (HasUrl entry)) c.in-Some.is c.in_ok-url.ensures in
    let is = subst (λ u. IsDataUrl u content) c.as_bytes.ensures.value c.in-Some-content_of.ensures in (
      content,
      record { url = c.in-Some.url; has_url = one.0; is_data_url = is },
      size-none entry c.in-Some.url content one.1 is (c.decoded_size.ensures.base64 fault),
    )
