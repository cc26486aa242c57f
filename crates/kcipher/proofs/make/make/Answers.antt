use Rattle.flows.proofs.Ciphers.{published_lawful}
use Rattle.kcipher.proofs.make.make.Goals as goal

pub returns-clause-answer : goal.returns-clause-answer
returns-clause-answer c =
    let p = c.args.draft.now.parts in
    record {
      yes = c.in_ok-keys.ensures.answer.0;
      cipher = record { is = c.cipher_of.ensures.is; lawful = published_lawful p c.args.key.now c.args.draft.now.sound };
      of = c.cipher_of.ensures.of;
    }
