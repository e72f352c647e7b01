-- What contracts see of the writers of a descriptor, a line and a message, before and after.
use Rattle.std.specs.Prelude.{ℕ, List, Option}

-- what the writers of the descriptor and the line hold before and after, if that is known
pub record OutputChange : Type 0 where
  pub descriptor_before : Option (List ℕ)
  pub descriptor_after : Option (List ℕ)
  pub out_before : Option (List ℕ)
  pub out_after : Option (List ℕ)

-- what these functions, which read the contents of a writer, say of them before and after
abbrev pub output_change : {W O : Type 0} → (W → Option (List ℕ)) → (O → Option (List ℕ)) → W → W → O → O → OutputChange
output_change descriptor_contents out_contents descriptor_old descriptor_new out_old out_new = record {
  descriptor_before = descriptor_contents descriptor_old;
  descriptor_after = descriptor_contents descriptor_new;
  out_before = out_contents out_old;
  out_after = out_contents out_new;
}

-- the same, and what the writer of the messages holds
pub record WriterChange : Type 0 where
  pub outputs : OutputChange
  pub msgs_before : Option (List ℕ)
  pub msgs_after : Option (List ℕ)
