-- `fit` meets its contract: where the first five tests hold the last decides; else the first that fails does. Assumes nothing.
use Rattle.std.proofs.Common.{◌≡◌, ◌^◌, false, ltb, sym, ◌∙◌, arith, lt-ltb, le-ltb, rules}
use Rattle.record.specs.Record.{fits}
use Rattle.record.proofs.FitLaws.{sixteen_fit}
use Rattle.record.proofs.inner.Numbers.fit.Goals as goal
use Rattle.record.proofs.inner.Numbers.fit.Goals.{then-self-lt1024, else-self-lt1024, then-self-lt2, else-self-lt2}
use Rattle.record.proofs.inner.Numbers.fit.Goals.{then-self-lt274877906944, else-self-lt274877906944, then-self-lt1048576, else-self-lt1048576}

pub returns-then-self-lt16 : goal.returns-then-self-lt16
unfolding fits
returns-then-self-lt16 c =
    let (a, b, l, e, f) = c.if-self-lt16.true in
    rw (lt-ltb _ (2 ^ 20) a, lt-ltb _ (2 ^ 38) b, lt-ltb _ 2 l, lt-ltb _ (2 ^ 10) e, lt-ltb _ (2 ^ 4) f)
    (sixteen_fit c.args.self.magnitude (omega arith))

pub returns-else-self-lt16 : goal.returns-else-self-lt16
unfolding fits
returns-else-self-lt16 c =
    elim c.if-self-lt1024.branch [
      | then-self-lt1024 w ↦
          let (a, b, l, e) = w.if-self-lt1024.true in
          let f : ltb c.args.self.filter (2 ^ 4) ≡ false = sym w.t-3-is ∙ search rules in
          rw (lt-ltb _ (2 ^ 20) a, lt-ltb _ (2 ^ 38) b, lt-ltb _ 2 l, lt-ltb _ (2 ^ 10) e, f) (search rules)
      | else-self-lt1024 w ↦
          elim c.if-self-lt2.branch [
            | then-self-lt2 v ↦
                let (a, b, l) = v.if-self-lt2.true in
                let e : ltb c.args.self.error (2 ^ 10) ≡ false = sym v.t-4-is ∙ search rules in
                rw (lt-ltb _ (2 ^ 20) a, lt-ltb _ (2 ^ 38) b, lt-ltb _ 2 l, e) (search rules)
            | else-self-lt2 v ↦
                elim c.if-self-lt274877906944.branch [
                  | then-self-lt274877906944 u ↦
                      let (a, b) = u.if-self-lt274877906944.true in
                      let l : ltb c.args.self.limit 2 ≡ false = sym u.t-5-is ∙ search rules in
                      rw (lt-ltb _ (2 ^ 20) a, lt-ltb _ (2 ^ 38) b, l) (search rules)
                  | else-self-lt274877906944 u ↦
                      elim c.if-self-lt1048576.branch [
                        | then-self-lt1048576 t ↦
                            let b : ltb c.args.self.date (2 ^ 38) ≡ false = sym t.t-6-is ∙ search rules in
                            rw (lt-ltb _ (2 ^ 20) t.if-self-lt1048576.true, b) (search rules)
                        | else-self-lt1048576 t ↦ rw (le-ltb _ (2 ^ 20) t.if-self-lt1048576.false) (search rules)
                      ]
                ]
          ]
    ]
