-- What status 0 of digest stands for (fsverity(1), "fsverity digest"; Linux kernel, fs-verity page, "File digest
-- computation"): a line for each file, in order.
use Rattle.std.specs.Prelude.{◌≡◌, ℕ, zero, suc, Bool, false, not, List, [], ◌++◌, length, Option, Some, slice_get, slice_index_or, ◌&&◌, is_ok}
use Rattle.std.specs.Prelude.{nat_lt}
use Rattle.{verity_format.specs.Descriptors.{digest_of_file, DescriptorFields}, verity_blocks.specs.Levels.root_of_file}
use Rattle.verity_plan.specs.{Plans.plan_for_bytes, Settings.{TreeSettingsFields, digest_len}}
use Rattle.fsverity.specs.{Texts.Lines.digest_line, declared.texts.digest_lines.Form.Form}

-- the descriptor of so many bytes with this root hash
abbrev pub descriptor_of : TreeSettingsFields → ℕ → List ℕ → DescriptorFields
descriptor_of s size root = record { tree = s; size = size; root = root }

-- there is data, and no plan for it
abbrev pub is_too_large : TreeSettingsFields → ℕ → Bool
is_too_large s size = nat_lt 0 size && not (is_ok (plan_for_bytes s size 0))

-- what a run gets beside its files: the settings, the form of the lines, and the files' names
pub record DigestInput : Type 0 where
  pub settings : TreeSettingsFields
  pub form : Form
  pub names : List (List ℕ)

-- the digest of a file that is not too large, made of a root hash of the settings' length; if the files are told, the
-- file of this index is there, and size and root hash are its own
pub record IsDigestAt (s : TreeSettingsFields) (told : Type 0) (files : List (Option (List ℕ))) (i : ℕ) (digest : List ℕ)
    : Type 0 where
  pub size : ℕ
  pub fits : is_too_large s size ≡ false
  pub root : List ℕ
  pub root_length : length root ≡ digest_len s
  pub digest_is : digest ≡ digest_of_file (descriptor_of s size root)
  pub of_file : told → (bytes : List ℕ) × ((slice_get files i ≡ Some (Some bytes)) × (size ≡ length bytes))
      × (root ≡ root_of_file s size bytes)

-- the line of a digest, with the name of this index
abbrev pub digest_line_at : DigestInput → ℕ → List ℕ → List ℕ
digest_line_at run i digest = digest_line run.form run.settings.algorithm digest (slice_index_or run.names i [])

-- the text is the lines of the files before this index, in order
abbrev pub AreDigestLines : DigestInput → Type 0 → List (Option (List ℕ)) → ℕ → List ℕ → Type 0
AreDigestLines run told files zero text = text ≡ []
AreDigestLines run told files (suc f) text = (before digest : List ℕ) × AreDigestLines run told files f before
    × IsDigestAt run.settings told files f digest × (text ≡ before ++ digest_line_at run f digest)
