-- What contracts see of the writers of a report and of a message, before and after.
use Rattle.std.specs.Prelude.{ℕ, List, Option}
use Rattle.std.specs.Io.KnownBytes.{Appends}

-- bytes are added to what a writer holds, perhaps none
abbrev pub Grows : Option (List ℕ) → Option (List ℕ) → Type 0
Grows before after = (added : List ℕ) × Appends before after added

-- what the writers of the report and of the message hold before and after, if that is known
pub record TextChange : Type 0 where
  pub out_before : Option (List ℕ)
  pub out_after : Option (List ℕ)
  pub msgs_before : Option (List ℕ)
  pub msgs_after : Option (List ℕ)

-- what the writers hold before and after, as these two functions read it
abbrev pub text_change : {O M : Type 0} → (O → Option (List ℕ)) → (M → Option (List ℕ)) → O → O → M → M → TextChange
text_change out_contents msgs_contents out_old out_new msgs_old msgs_new = record {
  out_before = out_contents out_old;
  out_after = out_contents out_new;
  msgs_before = msgs_contents msgs_old;
  msgs_after = msgs_contents msgs_new;
}
