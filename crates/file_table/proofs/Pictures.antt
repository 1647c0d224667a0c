-- An entry has the picture of one data URL at most.
use Rattle.std.proofs.Common.{◌≡◌, ◌≢◌, ℕ, List, length, Ok, Err, Result, IfOk, sym, ap, ◌∙◌, subst}
use Rattle.base64.specs.Engines.{standard}
use Rattle.base64.specs.GeneralPurpose.{decode_of}
use Rattle.file_table.specs.Picture.{IsDataUrl, HasUrl, HasData, IsPictureSize}
use Rattle.file_table.proofs.Urls.{content-unique}

pub IfOk-weaker : {T E : Type 0} (r : Result T E) (P Q : T → Type 0) → ((x : T) → P x → Q x) → IfOk r P → IfOk r Q
IfOk-weaker (Ok x) P Q f h = f x h
IfOk-weaker (Err e) P Q f h = tt

-- a decoded text, and its size
abbrev pub HasSize : List ℕ → ℕ → Type 0
HasSize content size = (bytes : List ℕ) × (decode_of standard content ≡ Ok bytes) × (size ≡ length bytes)

module _ (entry url content : List ℕ) (one : (other : List ℕ) → HasUrl entry other
    → other ≡ url) (is : IsDataUrl url content) where
  same_content : (other : List ℕ) → HasData entry other → other ≡ content
  same_content other h =
      content-unique url other content (subst (λ u. IsDataUrl u other) (one h.url h.has_url) h.is_data_url) is

  pub size-only : (size : ℕ) → HasSize content size → (other : ℕ) → IsPictureSize entry other → other ≡ size
  size-only size (bytes, decoded, counted) other h =
      let both : Ok h.bytes ≡ Ok bytes =
      sym h.decoded ∙ ap (decode_of standard) (same_content h.text h.has_data) ∙ decoded in
      let same : h.bytes ≡ bytes = cc in
      h.size_is ∙ ap length same ∙ sym counted

  pub size-none : ((bytes : List ℕ) → decode_of standard content ≢ Ok bytes) → (size : ℕ) → IsPictureSize entry size → ⊥
  size-none fails size h = fails h.bytes (ap (decode_of standard) (sym (same_content h.text h.has_data)) ∙ h.decoded)
