use Rattle.{std.proofs.Common.{◌≡◌, ◌∙◌, ap, sym, map, ◌∷◌, [], ◌++◌, string_bytes}, command_line.proofs.WordLists.{map-push-take, take-whole}}
use Rattle.command_line.proofs.words.word_list.all_words.Goals as goal

pub loop-number-init : goal.loop-number-init
loop-number-init g c = λ tells. ap (map string_bytes) c.new-words.ensures.items

pub returns-in-None-clause-whole : goal.returns-in-None-clause-whole
returns-in-None-clause-whole g c = λ tells.
    c.loop-number.invariant tells
    ∙ take-whole (g.L.WordList.words c.args.list.now) c.loop-number.number
    (sym (rw c.in-None.is at (c.in_ok-bytes.ensures tells)))

pub loop-number-preserved : goal.loop-number-preserved
loop-number-preserved g c = λ tells.
    let pushed : c.push.new.self.items ≡ c.loop-number.words.items ++ c.in-Ok.word ∷ []
    = rw c.if-is_err.ensures.negation at c.push.ensures.items in
    map-push-take string_bytes _ _ c.in-Ok.word (g.L.WordList.words c.args.list.now) c.loop-number.number
    c.in-Some.bytes.items (c.loop-number.invariant tells) (sym (rw c.in-Some.is at (c.in_ok-bytes.ensures tells)))
    (ap (λ v. v.items) c.in-Ok.ensures.ok) pushed
