use Rattle.std.proofs.Common.{◌≡◌, ◌+◌, ◌<◌, ℕ, List, [], Some, false, not, length, get_or, ap, refl, ◌∙◌, arith, map, option_map}
use Rattle.std.proofs.lemmas.{List.{length-map, Sums.prefix_len-le-length}, Option.{get_or_from_slice_get, slice_get-get_or, slice_get-map}}
use Rattle.{std.specs.List.slice_get, fsverity.specs.{Openers.Opening.opener_change, Runs.{Digest.has_digest, Digested.is_too_large}}}
use Rattle.{fsverity.proofs.RunLemmas.{line_more, part_of_digest_line, passes_more, stops_run}, verity_io.proofs.KnownLemmas.appends_twice}
use Rattle.command_line.proofs.Prefixes.{appends_nothing}
use Rattle.fsverity.proofs.runs.digest.write_digest_lines.Goals as goal

-- the mapped element of an index
mapped_at : {A B : Type 0} (f : A → B) (xs : List A) (i : ℕ) (d : A) → i < length xs
    → slice_get (map f xs) i ≡ Some (f (get_or xs i d))
mapped_at f xs i d below = slice_get-map f xs i ∙ ap (option_map f) (slice_get-get_or xs i d below)

pub loop-name-init : goal.loop-name-init
loop-name-init g c = record {
  next = c.requires.first;
  same = record { told = (λ t. t, λ t. t); files = refl; count = refl };
  failures = refl;
  within = λ t. omega arith;
  printed = ([], refl, appends_nothing _);
}

pub returns-in-Err-clause-ended : goal.returns-in-Err-clause-ended
returns-in-Err-clause-ended g c =
    let named = mapped_at (λ n. n.now) c.args.names.now c.loop-name.name-index _ c.loop-name-test.true in
    let change = opener_change g.O.Opener.tells g.O.Opener.files g.O.Opener.next g.O.Opener.failures in
    let part = part_of_digest_line _ _ _ _ _ _ _ _ c.in-Err.fault _ _ named c.loop-name.invariant.same.told.0
    c.loop-name.invariant.same.files c.loop-name.invariant.next c.in-Err.ensures.written in (
      c.loop-name.name-index,
      record {
        at_file = rw (get_or_from_slice_get (map (λ n. n.now) c.args.names.now) c.loop-name.name-index _ [] named)
            c.in-Err.ensures.at_file;
        has_name = rw (length-map c.args.names.now (λ n. n.now)) c.loop-name-test.true;
        is_next = c.write_next_digest_line.ensures.next ∙ ap (λ n. n + 1) c.loop-name.invariant.next;
        within = c.loop-name.invariant.within;
        reason = stops_run c.args.settings.now (change c.args.opener.now c.write_next_digest_line.new.opener)
            (change c.loop-name.opener c.write_next_digest_line.new.opener) c.loop-name.name-index c.in-Err.fault
            c.loop-name.invariant.same.told c.loop-name.invariant.same.files c.loop-name.invariant.next
            c.loop-name.invariant.within (omega (arith, c.loop-name.invariant.failures)) refl c.in-Err.ensures.reason;
        counted = rw c.loop-name.invariant.failures at c.in-Err.ensures.counted;
        lines = c.loop-name.invariant.printed.0;
        lines_are = c.loop-name.invariant.printed.1;
        part = part.0;
        part_is = part.1;
        written = appends_twice _ _ _ _ _ c.loop-name.invariant.printed.2 part.2;
      },
    )

pub loop-name-preserved : goal.loop-name-preserved
loop-name-preserved g c =
    let named = mapped_at (λ n. n.now) c.args.names.now c.loop-name.name-index _ c.loop-name-test.true in
    let written = c.in-Ok.ensures.written in
    record {
      next = c.write_next_digest_line.ensures.next ∙ ap (λ n. n + 1) c.loop-name.invariant.next;
      same = record {
        told = (
          λ t. c.write_next_digest_line.ensures.same.told.0 (c.loop-name.invariant.same.told.0 t),
          λ t. c.loop-name.invariant.same.told.1 (c.write_next_digest_line.ensures.same.told.1 t),
        );
        files = c.write_next_digest_line.ensures.same.files ∙ c.loop-name.invariant.same.files;
        count = c.write_next_digest_line.ensures.same.count ∙ c.loop-name.invariant.same.count;
      };
      failures = c.in-Ok.ensures.counted ∙ c.loop-name.invariant.failures;
      within = λ t.
          let file = rw (c.loop-name.invariant.same.files, c.loop-name.invariant.next)
          at (written.1.of_file (c.loop-name.invariant.same.told.0 t)) in
          let fits : is_too_large c.args.settings.now (length file.0) ≡ false = rw file.1.1 at written.1.fits in
          passes_more (has_digest c.args.settings.now) _ _ (Some file.0) file.1.0 (ap not fits)
          (c.loop-name.invariant.within t);
      printed = line_more _ _ _ _ _ _ _ _ _ _ _ named c.loop-name.invariant.same.told.0
          c.loop-name.invariant.same.files c.loop-name.invariant.next c.loop-name.invariant.printed written;
    }

pub returns-clause-all : goal.returns-clause-all
returns-clause-all g c = λ t.
    let all = g.met.O.Opener.counted c.args.opener.now t in
    let most = prefix_len-le-length (has_digest c.args.settings.now) (g.O.Opener.files c.args.opener.now) in
    let least = c.loop-name.invariant.within t in
    omega (arith, all, most, least, c.requires.names, c.loop-name-test.false)

pub returns-clause-printed : goal.returns-clause-printed
returns-clause-printed g c =
    let all : c.loop-name.name-index ≡ length c.args.names.now = omega (arith, c.loop-name-test.false) in
    rw all at c.loop-name.invariant.printed
