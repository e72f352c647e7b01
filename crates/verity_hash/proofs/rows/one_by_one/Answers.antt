use Rattle.std.proofs.{Common.{◌≢◌, ℕ, List, [], ap, ◌∙◌, arith, below_more}, lemmas.List.{get_or-set_same, get_or-set_other, length-set}}
use Rattle.verity_hash.{specs.Hashing.salted_hash, proofs.RowLemmas.rows-within}
use Rattle.verity_hash.proofs.rows.one_by_one.Goals as goal

pub row-requires : goal.row-requires
row-requires c = omega (arith, c.requires.whole, rows-within c.loop-r.r c.args.count c.args.size c.loop-r-test.true)

pub loop-r-preserved : goal.loop-r-preserved
loop-r-preserved c =
    let hash : List ℕ → List ℕ = salted_hash c.args.algorithm c.args.rule c.args.salt.now in
    let r = c.loop-r.r in
    let xs = c.loop-r.digests in
    record {
      long = length-set xs r c.salted.result ∙ c.loop-r.invariant.long;
      hashed = below_more _ _
          (λ i lt.
          let other : i ≢ r = omega (arith, lt) in
          get_or-set_other xs r i c.salted.result [] other ∙ c.loop-r.invariant.hashed i lt)
          (get_or-set_same xs r c.salted.result [] (omega (arith, c.loop-r.invariant.long, c.requires.most, c.loop-r-test.true))
          ∙ c.salted.ensures ∙ ap hash c.row.ensures);
    }
