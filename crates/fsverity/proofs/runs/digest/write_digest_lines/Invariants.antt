use Rattle.std.{proofs.Common.{◌≡◌, ◌≤◌, List, ℕ, map}, specs.Io.KnownBytes.Appends}
use Rattle.fsverity.specs.{Openers.Opening.SameFiles, Runs.{Digest.first_without_digest, Digested.AreDigestLines}}
use Rattle.fsverity.proofs.runs.digest.write_digest_lines.Given as goal

abbrev pub invariant-loop-name : goal.invariant-loop-name
invariant-loop-name g l = record {
  next : g.O.Opener.next l.opener ≡ l.name-index;
  same : SameFiles g.O.Opener.tells g.O.Opener.files g.O.Opener.count l.fn.opener l.opener;
  failures : g.O.Opener.failures l.opener ≡ g.O.Opener.failures l.fn.opener;
  within : g.O.Opener.tells l.fn.opener → l.name-index ≤ first_without_digest l.settings (g.O.Opener.files l.fn.opener);
  printed : (lines : List ℕ) × AreDigestLines
      (record { settings = l.settings; form = l.form; names = map (λ n. n.now) l.names })
      (g.O.Opener.tells l.fn.opener) (g.O.Opener.files l.fn.opener) l.name-index lines
      × Appends (g.W.Write.contents l.fn.out) (g.W.Write.contents l.out) lines;
}
