mod SecretFacts
