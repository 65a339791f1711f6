use Rattle.std.proofs.Common.{◌≡◌, ℕ, ◌<◌, ◌≤◌, ◌++◌, List, length, drop, sym, ap, ◌∙◌, arith, rules}
use Rattle.plan.specs.TaskSet.{TaskSet, task_set}
use Rattle.book.proofs.Writings.{one_block, one_for, pair_is, put_answers, put_leaves, short_stays, two_for}
use Rattle.book.proofs.Written.{written_reads_back}
use Rattle.book.proofs.writer.write.Goals as goal

pub returns-then-len-le-RECORDS : goal.returns-then-len-le-RECORDS
returns-then-len-le-RECORDS c =
    let set : TaskSet = task_set c.args.plan.now in
    let B : List ℕ = c.args.buffer.now in
    let few : length set.tasks ≤ 15 = omega arith in
    let room : 512 ≤ length B = search rules in
    let now : List ℕ = c.put_block.new.block ++ drop 512 B in
    let answer = put_answers set B 1 (one_for set few) room in
    let after = put_leaves set B 1 (one_for set few) room now (ap (λ b. b ++ drop 512 B) (c.put_block.ensures ∙ sym (one_block set few))) in
    record {
      answer = answer;
      after = after;
      reads_back = written_reads_back c.args.plan.now B now _ _ answer after;
    }

pub returns-in_err-second-clause-after : goal.returns-in_err-second-clause-after
returns-in_err-second-clause-after c =
    let set : TaskSet = task_set c.args.plan.now in
    let B : List ℕ = c.args.buffer.now in
    let short : length B < 1024 = search rules in
    short_stays set B c.in-Some.first.now c.in-Some.rest.now (search rules) (search rules) (omega arith) short

pub returns : goal.returns
returns c =
    let set : TaskSet = task_set c.args.plan.now in
    let B : List ℕ = c.args.buffer.now in
    let many : 15 < length set.tasks = omega arith in
    let rest : c.in-Some.rest.now ≡ drop 512 B = search rules in
    let room : 1024 ≤ length B = search rules in
    let now : List ℕ = c.put_block-2.new.block ++ (c.put_block-3.new.block ++ drop 512 c.in-Some.rest.now) in
    let written =
    ap (λ d. c.put_block-2.new.block ++ (c.put_block-3.new.block ++ drop 512 d)) rest ∙
    pair_is set c.put_block-2.new.block c.put_block-3.new.block B c.put_block-2.ensures c.put_block-3.ensures many in
    let answer = put_answers set B 2 (two_for set many) room in
    let after = put_leaves set B 2 (two_for set many) room now written in
    record {
      answer = answer;
      after = after;
      reads_back = written_reads_back c.args.plan.now B now _ _ answer after;
    }
