use Rattle.std.proofs.{Common.{List, ℕ, length, take, arith, refl, sym, ◌∙◌, ◌≡◌, ◌++◌, ◌≤◌, ◌*◌}, lemmas.List.append-nil}
use Rattle.verity_blocks.{specs.Steps.Feeding.FeedsOn, proofs.ClosingSteps.{Advancing.length-fed, Climbing.most_closed-le}}
use Rattle.verity_builders.{specs.Steps.FedTrees.IsFedTo, proofs.Trees.TreeMemory.{IsFedTo-joined, IsFedTo-parted, last-in}}
use Rattle.verity_builders.proofs.fed_tree.feed_piece.Goals.{After-feed_until_closed-taken}
use Rattle.verity_builders.proofs.fed_tree.feed_piece.Goals as goal

-- no more bytes were fed than there are
most : (c : After-feed_until_closed-taken) → c.feed_until_closed-taken.new.progress.fed ≤ c.args.own.now.wanted
most c =
    omega (
      arith,
      c.feed_until_closed-taken.ensures.fed,
      c.feed_until_closed-taken.ensures.most,
      c.in_default.ensures.none,
    )

-- no more levels had closed than there are
had : (c : After-feed_until_closed-taken) → c.args.progress.now.closed ≤ c.args.levels
had c =
    omega (
      arith,
      c.in_default.ensures.none,
      most_closed-le c.args.own.now c.args.levels c.args.progress.now.fed c.requires.tree.own_levels,
    )

pub handed_out-requires-clause-below : goal.handed_out-requires-clause-below
handed_out-requires-clause-below c =
    let some = (c.feed_until_closed-taken.ensures.closes c.if-closes.true).1 in
    last-in c.args.whole.now c.args.own.now c.args.first c.args.levels _ c.planned.ensures c.requires.tree some
    (most (goal.at.handed_out-requires-clause-below c).After-feed_until_closed-taken)

-- the open blocks' length, as the code counts it
area : (c : After-feed_until_closed-taken)
    → c.args.levels * c.hash_block.result ≡ c.args.levels * c.args.own.now.settings.hash_block
area c = rw c.hash_block.ensures refl

-- what was fed stands in the memory's two parts after the step
fed-on : (c : After-feed_until_closed-taken) → (fed : List ℕ)
    → IsFedTo c.args.own.now c.args.levels c.args.progress.now c.args.memory.now fed
    → FeedsOn c.args.own.now c.args.levels fed c.args.progress.now.closed
    (take c.feed_until_closed-taken.result.0 c.args.piece.now) c.feed_until_closed-taken.result.1
    c.feed_until_closed-taken.new.progress.closed c.feed_until_closed-taken.new.opened
    c.feed_until_closed-taken.new.window
fed-on c fed h =
    c.feed_until_closed-taken.ensures.stands c.args.levels fed (omega arith)
    (omega (arith, area c, c.split_at_mut-opened.ensures.front_len)) h.count
    (IsFedTo-parted c.args.own.now c.args.levels _ c.args.progress.now c.args.memory.now _ _ fed (area c)
    c.split_at_mut-opened.ensures.front c.split_at_mut-opened.ensures.back h)

has : (c : After-feed_until_closed-taken) → (fed : List ℕ) → length fed ≡ c.args.progress.now.fed
    → length (fed ++ take c.feed_until_closed-taken.result.0 c.args.piece.now)
    ≡ c.feed_until_closed-taken.new.progress.fed
has c fed count =
    length-fed fed c.args.piece.now c.args.progress.now.fed c.feed_until_closed-taken.result.0 _ count
    c.feed_until_closed-taken.ensures.most c.feed_until_closed-taken.ensures.fed

is_fed : (c : After-feed_until_closed-taken) → (fed : List ℕ)
    → IsFedTo c.args.own.now c.args.levels c.args.progress.now c.args.memory.now fed
    → IsFedTo c.args.own.now c.args.levels c.feed_until_closed-taken.new.progress
    (c.feed_until_closed-taken.new.opened ++ c.feed_until_closed-taken.new.window)
    (fed ++ take c.feed_until_closed-taken.result.0 c.args.piece.now)
is_fed c fed h =
    IsFedTo-joined c.args.own.now c.args.levels c.feed_until_closed-taken.new.progress
    c.feed_until_closed-taken.new.opened c.feed_until_closed-taken.new.window _
    (c.feed_until_closed-taken.auto.opened ∙ c.split_at_mut-opened.ensures.front_len ∙ area c) (has c fed h.count)
    (fed-on c fed h).stands

pub returns-then-closes-clause-takes : goal.returns-then-closes-clause-takes
returns-then-closes-clause-takes c =
    let step = c.feed_until_closed-taken in
    let out = c.handed_out.ensures in
    record {
      fed_is = step.ensures.fed;
      most = step.ensures.most;
      all = λ none. absurd cc;
      done = λ none. absurd cc;
      placed = λ block is.
          let same : c.handed_out.result ≡ block = cc in
          rw (← same) (record {
            level_is = out.level;
            level_below = omega (arith, out.level, step.ensures.closed);
            index_is = out.index;
            start_is = out.start;
            at_is = out.at;
          });
      waits = λ block is. step.ensures.waits c.if-closes.true;
      rises = λ block is none. (step.ensures.closes c.if-closes.true).2 none;
    }

pub returns-then-closes-clause-fed : goal.returns-then-closes-clause-fed
returns-then-closes-clause-fed c = λ fed h.
    let at = (goal.at.returns-then-closes-clause-fed c).After-feed_until_closed-taken in
    let on = rw c.if-closes.true at (fed-on at fed h) in
    record {
      is_fed = is_fed at fed h;
      fed_most = most at;
      had_closed = had at;
      has_closed = c.feed_until_closed-taken.ensures.closed;
      order = rw (has at fed h.count, h.count) at on.order;
    }

pub returns-else-closes-clause-fed : goal.returns-else-closes-clause-fed
returns-else-closes-clause-fed c = λ fed h.
    let at = (goal.at.returns-else-closes-clause-fed c).After-feed_until_closed-taken in
    let on = rw c.if-closes.false at (fed-on at fed h) in
    record {
      is_fed = is_fed at fed h;
      fed_most = most at;
      had_closed = had at;
      has_closed = c.feed_until_closed-taken.ensures.closed;
      order = (rw (has at fed h.count, h.count) at on.order) ∙ sym (append-nil _);
    }
