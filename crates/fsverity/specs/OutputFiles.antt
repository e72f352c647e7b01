-- The output files of a run, each of which may be missing, and what a value says of them that a step answers.
-- For the private functions; not needed to read a public contract.
use Rattle.std.specs.Prelude.{◌≡◌, ◌⊎◌, ℕ, List, [], Option, Some, None, IsSome, is_some, option_map}
use Rattle.{std.specs.Borrow.Bor, verity_plan.specs.Settings.TreeSettingsFields}
use Rattle.command_line.specs.declared.files.{identity.FileIdentity.FileIdentity, opening.{MeasuredFile.MeasuredFile, OpenedFile.OpenedFile}}
use Rattle.fsverity.specs.declared.{program.output_files.{OutputFiles.OutputFiles, OutputNames.OutputNames}, texts.digest_lines.Form.Form}
use Rattle.fsverity.specs.declared.{program.outputs.OutputRequest.OutputRequest, runs.outputs.{OutputTask.OutputTask, Written.Written}}

-- the names that the output files were asked for by
abbrev pub names_of : {D W : Type 0} → OutputFiles D W → OutputNames
names_of files = record {
  tree = option_map (λ f. f.path) files.tree;
  descriptor = option_map (λ f. f.path) files.descriptor;
}

-- what these functions, which read a device or a writer, say of a file that may be missing
abbrev pub tells_in : {D : Type 0} → (D → Type 0) → Option (OpenedFile D) → Type 0
tells_in tells None = ⊥
tells_in tells (Some f) = tells f.file

abbrev pub content_in : {D : Type 0} → (D → List ℕ) → Option (OpenedFile D) → List ℕ
content_in content None = []
content_in content (Some f) = content f.file

abbrev pub failures_in : {D : Type 0} → (D → ℕ) → Option (OpenedFile D) → ℕ
failures_in failures None = 0
failures_in failures (Some f) = failures f.file

abbrev pub contents_in : {W : Type 0} → (W → Option (List ℕ)) → Option (OpenedFile W) → Option (List ℕ)
contents_in contents None = None
contents_in contents (Some f) = contents f.file

-- the task of an input file: its own name and length, and what there are output files for
abbrev pub file_task : {S D W : Type 0} → TreeSettingsFields → Form → MeasuredFile S → OutputFiles D W → OutputTask
file_task settings form input files = record {
  settings = settings;
  form = form;
  name = input.opened.path;
  size = input.length;
  wants_tree = is_some files.tree;
  wants_descriptor = is_some files.descriptor;
}

-- the system says of two files that they are one
abbrev pub AreSame : Option FileIdentity → Option FileIdentity → Type 0
AreSame one other = IsSome one × (one ≡ other)

-- which output file is the input file or the other output file: the tree's, the descriptor's, or none
abbrev pub FindsTwice : Option FileIdentity → Option FileIdentity → Option FileIdentity → OutputNames
    → Option (Bor (List ℕ)) → Type 0
FindsTwice opened tree descriptor names None =
    (AreSame tree opened → ⊥) × (AreSame descriptor opened → ⊥) × (AreSame descriptor tree → ⊥)
FindsTwice opened tree descriptor names (Some name) = ((names.tree ≡ Some name) × AreSame tree opened)
    ⊎ ((names.descriptor ≡ Some name) × (AreSame descriptor opened ⊎ AreSame descriptor tree))

-- the identity is the system's answer for a name; for a missing one there is none
abbrev pub IsAnswer : (List ℕ → Option FileIdentity → Type 0) → Option (Bor (List ℕ)) → Option FileIdentity → Type 0
IsAnswer gives None identity = identity ≡ None
IsAnswer gives (Some name) identity = gives name.now identity

-- the same by what the system answered for the paths and for the opened input file
pub record FoundBySystem (gives_path : List ℕ → Option FileIdentity → Type 0)
    (gives_input : Option FileIdentity → Type 0) (names : OutputNames) (found : Option (Bor (List ℕ))) : Type 0 where
  pub opened : Option FileIdentity
  pub tree : Option FileIdentity
  pub descriptor : Option FileIdentity
  pub opened_is : gives_input opened
  pub tree_is : IsAnswer gives_path names.tree tree
  pub descriptor_is : IsAnswer gives_path names.descriptor descriptor
  pub finds : FindsTwice opened tree descriptor names found

-- the value says that what was asked for was written: of the file of this name, by these settings and in this form, to
-- the output files of these names
pub record SaysWritten (settings : TreeSettingsFields) (request : OutputRequest) (done : Written) : Type 0 where
  pub settings_are : done.task.settings ≡ settings
  pub form : done.task.form ≡ request.form
  pub name : done.task.name ≡ request.name
  pub wants_tree : done.task.wants_tree ≡ is_some request.outputs.tree
  pub wants_descriptor : done.task.wants_descriptor ≡ is_some request.outputs.descriptor
  pub names : done.names ≡ request.outputs
