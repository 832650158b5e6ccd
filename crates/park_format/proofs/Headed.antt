-- A file whose header keeps the rules: it has room for what the header says, and one of the versions. An accepted file is such a file.
-- Assumes nothing.
use Prim.Native.Nat.{ℕ, ◌≤◌}
use native.Mathlib.Omega.{arith}
use mathlib.Core.Path.{◌≡◌, refl, sym, ap, ◌∙◌}
use mathlib.Core.Bool.{not}
use mathlib.Core.List.{List}
use mathlib.Core.Option.{Option, none}
use lib.Dec.{eqb}
use lib.ListN.{length}
use Rattle.park_format.specs.Format.{version_of}
use Rattle.park_format.specs.Inner.Recorded.{Recorded}
use Rattle.park_format.specs.Inner.Sized.{Sized}
use Rattle.park_format.specs.Limits.{latest_version}
use Rattle.park_format.specs.Park.{header_of, park_of}
use Rattle.park_format.specs.Rules.{file_rules, first_broken, has_wrong_length, header_rules, IsAccepted, is_short, KeepsRules, refusal, size_of}
use Rattle.park_format.specs.declared.header.Header.{Header}
use Rattle.park_format.proofs.Accepted.{kept_header, parts}
use Rattle.park_format.proofs.Entries.{recorded_file}
use Rattle.park_format.proofs.Fields.{header_of_lem}
use Rattle.park_format.proofs.Verdict.{file_decides, file_kept, sized}

pub record Headed (file : List ℕ) (h : Header) : Type 0 where
  pub its : h ≡ header_of file
  pub sized : Sized h (length file)
  pub recorded : Recorded (park_of file)
  pub sound : first_broken (header_rules (has_wrong_length file) h) ≡ none
  pub version : (1 ≤ h.version) × (h.version ≤ 2)

pub headed : (file : List ℕ) (h : Header) → h ≡ header_of file → none ≡ first_broken (header_rules (has_wrong_length file) h) → Headed file h
headed file h read sound =
    let room = sized file h read sound in
    let kept = kept_header (length file) h (sym (sound ∙ ap (λ (x : Header). first_broken (header_rules (not (eqb (length file) (size_of x))) h)) (sym read))) in
    record { its = read; sized = room; recorded = recorded_file file read room; sound = sym sound; version = kept.version }

-- a header that was looked at with the length that it asks for
pub asked : (file : List ℕ) (h : Header) {size : ℕ} {told : Option (ℕ × ℕ)} → size ≡ size_of h → told ≡ first_broken (header_rules (not (eqb (length file) size)) h) → h ≡ header_of file → told ≡ first_broken (header_rules (has_wrong_length file) h)
asked file h asks told read =
    told ∙ ap (λ (n : ℕ). first_broken (header_rules (not (eqb (length file) n)) h)) (asks ∙ ap size_of read)

-- its version, where what it states is this one or none that there is
pub of_version : (file : List ℕ) (h : Header) {version : ℕ} → Headed file h → (1 ≤ version_of file → version_of file ≤ latest_version → version_of file ≡ version) → h.version ≡ version
of_version file h head states =
    let read : h.version ≡ version_of file = ap (λ (x : Header). x.version) (head.its ∙ header_of_lem file) in
    read ∙ states (omega (arith, read, head.version)) (omega (arith, read, head.version))

module _ (file : List ℕ) (accepted : IsAccepted file) where
  sound_of : none ≡ first_broken (header_rules (has_wrong_length file) (park_of file).header)
  unfolding refusal file_rules
  sound_of = sym (parts (is_short file) (has_wrong_length file) (park_of file) accepted).header

  pub accepted_headed : (h : Header) → h ≡ header_of file → Headed file h
  unfolding park_of
  accepted_headed h read = headed file h read (sound_of ∙ ap (λ (x : Header). first_broken (header_rules (has_wrong_length file) x)) (sym read))

  pub accepted_keeps : KeepsRules (park_of file)
  accepted_keeps =
      let head = accepted_headed (header_of file) refl in
      file_kept file (header_of file) refl head.sound (sym accepted ∙ sym (file_decides file (header_of file) refl head.sound))
