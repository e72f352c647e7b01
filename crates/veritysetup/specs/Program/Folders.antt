-- The folder in which a path's last name stands. Only the contract of a private function speaks of it.
use Rattle.std.specs.Prelude.{ℕ, ◌==◌, List, length, Option, None, Some, if◌then◌else◌}
use Rattle.std.specs.Path.{cur_dir, path_parent}

-- the current folder, if none is named
abbrev pub or_current : Option (List ℕ) → List ℕ
or_current None = cur_dir
or_current (Some folder) = if length folder == 0 then cur_dir else folder

-- what stands before the last name; for a name alone it is the current folder
abbrev pub folder_of : List ℕ → List ℕ
folder_of path = or_current (path_parent path)
